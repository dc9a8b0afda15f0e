-- What a filter of several tests says of a node, told from its beginning without a cell. P is the plan, L the pool, S the table, X the text. Assumes nothing.
use Rattle.std.specs.Prelude.{ℕ, ◌≤◌, ◌<◌, ◌≡◌, List, Bool as Bits, true, false}
use Rattle.std.proofs.Common.{arith}
use Rattle.definition.specs.Forms.{Test}
use Rattle.definition.specs.Tables.{node_at}
use Rattle.definition.specs.Evaluation.{eval_test}
use Rattle.eval_laws.specs.Todos.{todo_start, todo_end}
use Rattle.eval_filters.specs.Queries.{Within}
use Rattle.eval_filters.specs.Kept.{Tested, AskTest, DoneTest}
use Rattle.eval_filters.specs.Tests.{Left}
use Rattle.eval_filters.specs.Values.{AskLeft}
use Rattle.eval_filters.specs.declared.Told.{Told}
use Rattle.eval_rows.specs.declared.rows.Answer.{Answer}
use Rattle.eval_filters.specs.Turns.{AskTurn, DoneTurn}

-- the test's answer, or the place of a test that is not told
pub record DoneJoined (P L S X : List ℕ) (root node p z : ℕ) (r : Answer) : Type 0 where
  pub told : z ≤ r.q → DoneTest P L S X root node p z r.acc
  pub untold : r.q < z → AskLeft P L S X root node r.q z

-- what is left of the code gives the test's answer, for every form that stands there
abbrev pub InJoined : List ℕ → List ℕ → List ℕ → List ℕ → ℕ → ℕ → ℕ → ℕ → Bits → ℕ → Type 0
InJoined P L S X root node p z acc q = (t : Test) (k : ℕ) → Tested P L p z t k → Left P L q z (node_at S X root) (node_at S X node) acc (eval_test t (node_at S X root) (node_at S X node))

pub joined_start : {P L S X : List ℕ} {root node p z : ℕ} → Within P L S X root node → InJoined P L S X root node p z false p
joined_start w t k h = todo_start _ _ _ _ k _ _ _ _ _ t h.test h.place

module _ {P L S X : List ℕ} {root node p z : ℕ} {acc : Bits} {q : ℕ} (w : Within P L S X root node) (a : AskTest P L p z) (i : InJoined P L S X root node p z acc q) where
  pub joined_turn : q < z → AskTurn P L S X root node acc q z
  joined_turn h = record { within = w; want = _; todo = i a.t a.k a.stands; more = h }

  pub joined_further : {r : Told} → DoneTurn P L S X root node acc q z r → r.some ≡ true → InJoined P L S X root node p z r.acc r.q
  joined_further d s t k h = d.goes s _ (i t k h)

  pub joined_none : {b : Bits} → q < z → DoneJoined P L S X root node p z (record { acc = b; q = q })
  joined_none h = record { told = λ u. absurd (omega arith); untold = λ u. record { within = w; acc = acc; want = _; todo = i a.t a.k a.stands; more = h } }

  pub joined_told : z ≤ q → DoneJoined P L S X root node p z (record { acc = acc; q = q })
  joined_told h = record { told = λ u t k b. todo_end _ _ _ _ _ _ _ _ _ _ (i t k b) h; untold = λ u. absurd (omega arith) }
