-- The loops over a filter's code: what is left of it gives the same answer, for every form that stands there. Assumes nothing.
use Rattle.std.specs.Prelude.{ℕ, ◌≤◌, ◌<◌, ◌≡◌, refl, List, Bool as Bits, true, false}
use Rattle.std.proofs.Common.{sym, ◌∙◌, arith}
use Rattle.definition.specs.Values.{Json}
use Rattle.definition.specs.Compare.{Value}
use Rattle.definition.specs.Tables.{node_at}
use Rattle.eval_laws.specs.Todos.{todo_start, todo_end, todo_to}
use Rattle.eval_values.specs.Means.{meaning, some_of, Pair}
use Rattle.eval_values.specs.declared.Operand.{Operand}
use Rattle.eval_values.specs.declared.Operand.TheVariants.{Nothing, Null, Bool, Int, Float, Pool, Text, Node}
use Rattle.eval_items.specs.Leaves.{Doing}
use Rattle.eval_items.specs.declared.Regs.{Regs}
use Rattle.eval_front.specs.Fronts.{never}
use Rattle.eval_filters.specs.Queries.{Within}
use Rattle.eval_filters.specs.Kept.{AskTest, DoneTest}
use Rattle.eval_filters.specs.Tests.{Left, AskRest, DoneRest}
use Rattle.eval_filters.specs.Turns.{AskTurn}
use Rattle.eval_filters.specs.declared.Told.{Told}
use Rattle.eval_asks.specs.Cells.{left_ended}
use Rattle.eval.specs.declared.Said.{Said}

-- ---- by registers

pub record InRest (P L S X : List ℕ) (root node : ℕ) (acc : Bits) (p e : ℕ) (s : Regs) : Type 0 where
  pub later : p ≤ s.q
  pub pair : Pair S X L s.x s.y
  pub again : (want : Bits) → Left P L p e (node_at S X root) (node_at S X node) acc want → Doing P L S X s e (node_at S X root) (node_at S X node) want

-- r is the answer in front of a later place
pub record DoneTested (P L S X : List ℕ) (root node : ℕ) (acc : Bits) (p e : ℕ) (r : Told) : Type 0 where
  pub further : p < r.q
  pub goes : (want : Bits) → Left P L p e (node_at S X root) (node_at S X node) acc want → Left P L r.q e (node_at S X root) (node_at S X node) r.acc want

-- registers in which nothing stands
none_means : (S X L : List ℕ) (v : Operand) → some_of v ≡ false → Value.nothing ≡ meaning S X L v
none_means S X L Nothing e = refl
none_means S X L Null e = absurd (never (sym e))
none_means S X L (Bool b) e = absurd (never (sym e))
none_means S X L (Int z) e = absurd (never (sym e))
none_means S X L (Float f) e = absurd (never (sym e))
none_means S X L (Pool i n) e = absurd (never (sym e))
none_means S X L (Text i n) e = absurd (never (sym e))
none_means S X L (Node i) e = absurd (never (sym e))

pub clear_left : {P L : List ℕ} (S X : List ℕ) (s : Regs) {e : ℕ} {R N : Json} {want : Bits} → (some_of s.x ≡ false) × (some_of s.y ≡ false) → Doing P L S X s e R N want → Left P L s.q e R N s.acc want
clear_left {P} {L} S X s {e} c d = todo_to P L s.q s.q e _ _ _ _ _ _ _ _ _ refl refl (none_means S X L s.x c.0) (none_means S X L s.y c.1) d

-- ---- with an answer and no values

pub record InTest (P L S X : List ℕ) (root node : ℕ) (acc : Bits) (p e : ℕ) (b : Bits) (q : ℕ) : Type 0 where
  pub later : p ≤ q
  pub again : (want : Bits) → Left P L p e (node_at S X root) (node_at S X node) acc want → Left P L q e (node_at S X root) (node_at S X node) b want

-- r is the test's answer, or that in front of a call
pub record DoneSaid (P L S X : List ℕ) (root node : ℕ) (acc : Bits) (p e : ℕ) (stop : Bits) (r : Said) : Type 0 where
  pub later : p ≤ e → p ≤ r.q
  pub near : r.q ≤ e
  pub goes : (want : Bits) → Left P L p e (node_at S X root) (node_at S X node) acc want → Left P L r.q e (node_at S X root) (node_at S X node) r.acc want
  pub onward : stop ≡ false → e ≤ r.q

module _ {P L S X : List ℕ} {root node : ℕ} {acc : Bits} {p e : ℕ} {b : Bits} {q : ℕ} (i : InTest P L S X root node acc p e b q) where
  pub turn_here : AskRest P L S X root node acc p e → Within P L S X root node → q < e → AskTurn P L S X root node b q e
  turn_here a w h = record { within = w; want = _; todo = i.again a.want a.todo; more = h }

  pub said_met : {stop deep : Bits} → stop ≡ true → q < e → DoneSaid P L S X root node acc p e stop (record { acc = b; q = q; deep = deep })
  said_met u h = record { later = λ y. i.later; near = omega arith; goes = i.again; onward = λ y. absurd (never (sym y ∙ u)) }

  pub said_told : {stop deep : Bits} → e ≤ q → DoneSaid P L S X root node acc p e stop (record { acc = b; q = e; deep = deep })
  said_told h = record { later = λ y. y; near = omega arith; goes = λ want l. left_ended h (i.again want l); onward = λ y. omega arith }

module _ {P L S X : List ℕ} {root node : ℕ} {acc : Bits} {p e : ℕ} {stop : Bits} {r : Said} (d : DoneSaid P L S X root node acc p e stop r) (n : e ≤ r.q) where
  pub said_rest : DoneRest P L S X root node acc p e r.acc
  said_rest want h = todo_end _ _ _ _ _ _ _ _ _ _ (d.goes want h) n

  pub said_test : DoneTest P L S X root node p e r.acc
  said_test t k h = said_rest _ (todo_start _ _ _ _ k _ _ _ _ _ t h.test h.place)

-- a test from its beginning
pub rest_start : {P L S X : List ℕ} {root node : ℕ} {acc : Bits} {p e : ℕ} → AskTest P L p e → AskRest P L S X root node acc p e
rest_start a = record { want = _; todo = todo_start _ _ _ _ a.k _ _ _ _ _ a.t a.stands.test a.stands.place }

-- a test from where it is told
pub rest_later : {P L S X : List ℕ} {root node : ℕ} {acc : Bits} {p e : ℕ} {stop : Bits} {r : Said} → DoneSaid P L S X root node acc p e stop r → AskTest P L p e → AskRest P L S X root node r.acc r.q e
rest_later {acc = acc} d a = record { want = _; todo = d.goes _ (rest_start {acc = acc} a).todo }

pub said_later : {P L S X : List ℕ} {root node : ℕ} {acc : Bits} {p e : ℕ} {stop : Bits} {r : Said} {b : Bits} → DoneSaid P L S X root node acc p e stop r → DoneRest P L S X root node r.acc r.q e b → DoneTest P L S X root node p e b
said_later d g t k h = g _ (d.goes _ (todo_start _ _ _ _ k _ _ _ _ _ t h.test h.place))
