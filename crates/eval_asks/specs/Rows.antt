-- The nodes of a range of which a filter tells by itself, and those that are left. v is what is lent. Assumes nothing.
use Rattle.std.specs.Prelude.{ℕ, ◌≤◌, ◌<◌, ◌+◌, ◌≡◌, List}
use Rattle.std.proofs.Common.{◌∙◌, arith}
use Rattle.std.specs.Borrow.{MutBor}
use Rattle.definition.specs.Tables.{node_count}
use Rattle.eval_laws.specs.States.{st}
use Rattle.eval_front.specs.Visits.{Query}
use Rattle.eval_filters.specs.Kept.{AskTest}
use Rattle.eval_asks.specs.declared.Lent.{Lent}
use Rattle.eval_asks.specs.declared.State.{State as Numbers}
use Rattle.eval_asks.specs.Lent.{plan_of, pool_of, table_of, text_of, root_of, cap_of, at_of}
use Rattle.eval_asks.specs.Asks.{Asked, Steady, Gives, AskNext}
use Rattle.eval_asks.specs.Steady.{asked_later}
use Rattle.eval_asks.specs.Kinds.{Keeps, keeping}
use Rattle.eval_asks.specs.Cells.{Column}

-- the nodes from i up to e, the test from p up to z, and the segments at rest
pub record AskRows (v : Lent) (i e p z rest : ℕ) : Type 0 where
  pub near : i ≤ 4294967295
  pub range : i < e → e ≤ node_count (table_of v)
  pub test : AskTest (plan_of v) (pool_of v) p z
  pub query : Query (plan_of v) (pool_of v) rest

-- those before node r are done
pub record DoneRows (v : Lent) (i e p z rest : ℕ) (s : Numbers) (l : List ℕ) (s' : Numbers) (l' : List ℕ) (r : ℕ) : Type 0 where
  pub low : i ≤ r
  pub high : i ≤ e → r ≤ e
  pub room : at_of s' ≤ cap_of s + 1
  pub goes : (x : Keeps (plan_of v) (pool_of v) p z rest) (R C : ℕ) → root_of s ≡ R → cap_of s ≡ C → keeping v p z rest r e x R (st C l' (at_of s')) ≡ keeping v p z rest i e x R (st C l (at_of s))

-- those for which the test holds are emitted, each with the segments at rest
abbrev pub DoneKept : Lent → ℕ → ℕ → ℕ → ℕ → ℕ → Numbers → List ℕ → Numbers → List ℕ → Type 0
DoneKept v i e p z rest s l s' l' = Gives (Keeps (plan_of v) (pool_of v) p z rest) (keeping v p z rest i e) s l s' l'

-- ---- those that are left

module _ {v : Lent} {i e p z rest : ℕ} {s s' : Numbers} {l l' : MutBor (List ℕ)} {k : ℕ} (u : Steady s l s' l' × DoneRows v i e p z rest s l.now s' l'.now k) where
  pub rows_given : Asked v s l.now → Asked v s' l'.now
  rows_given a = asked_later u.0 a u.1.room

  pub rows_next : AskNext v (root_of s) i e p z → AskNext v (root_of s') k e p z
  rows_next a = let r = u.0.root in record { given = a.given; root_in = omega (arith, a.root_in); range = λ h. a.range (omega (arith, u.1.low)); test = a.test }

  -- what they give is what is left of the whole
  pub rows_then : {s'' : Numbers} {l'' : List ℕ} → Gives (Keeps (plan_of v) (pool_of v) p z rest) (keeping v p z rest k e) s' l'.now s'' l'' → Gives (Keeps (plan_of v) (pool_of v) p z rest) (keeping v p z rest i e) s l.now s'' l''
  rows_then g = record { emits = λ x R C r c. g.emits x R C (u.0.root ∙ r) (u.0.cap ∙ c) ∙ u.1.goes x R C r c }

-- ---- the cells of those from i up to e

pub record AskCells (v : Lent) (root i e p z : ℕ) (l : List ℕ) : Type 0 where
  pub next : AskNext v root i e p z
  pub upto : i ≤ e
  pub column : Column (plan_of v) (pool_of v) (table_of v) (text_of v) root i e p z l
