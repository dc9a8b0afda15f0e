-- What stands behind the references of one word that the evaluation hands on: the plan, the pool, the table and the text; the node that `$` stands for, how many
-- nodes are counted, and the next place of the list. Assumes nothing: these are definitions.
use Rattle.std.specs.Prelude.{ℕ, List}
use Rattle.eval_asks.specs.declared.Lent.{Lent}
use Rattle.eval_asks.specs.declared.State.{State}

abbrev pub plan_of : Lent → List ℕ
plan_of v = v.plan.now

abbrev pub pool_of : Lent → List ℕ
pool_of v = v.pool.now

abbrev pub table_of : Lent → List ℕ
table_of v = v.table.now

abbrev pub text_of : Lent → List ℕ
text_of v = v.text.now

abbrev pub root_of : State → ℕ
root_of s = s.root

abbrev pub cap_of : State → ℕ
cap_of s = s.cap

abbrev pub at_of : State → ℕ
at_of s = s.at

-- s with n as its next place
abbrev pub with_at : State → ℕ → State
with_at s n = record s { at = n }
