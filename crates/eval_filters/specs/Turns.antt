-- An operator or a test of a filter's code on a node, told without registers: what is asked, and what is left of the code behind it. P is the plan, L the pool, S the
-- table, X the text. Assumes nothing.
use Rattle.std.specs.Prelude.{ℕ, ◌<◌, ◌≡◌, List, Bool as Bits, true, false, get_or}
use Rattle.std.proofs.Common.{sym, ◌∙◌}
use Rattle.definition.specs.Tables.{node_at}
use Rattle.eval_front.specs.Fronts.{never}
use Rattle.eval_filters.specs.Queries.{Within}
use Rattle.eval_filters.specs.Tests.{Left, DoneShort, DoneLogic, AskLogic, logic_kind, logic_kind_lem}
use Rattle.eval_filters.specs.Values.{AskLeft}
use Rattle.eval_filters.specs.declared.Told.{Told}

pub record AskTurn (P L S X : List ℕ) (root node : ℕ) (acc : Bits) (q z : ℕ) : Type 0 where
  pub within : Within P L S X root node
  pub want : Bits
  pub todo : Left P L q z (node_at S X root) (node_at S X node) acc want
  pub more : q < z

pub record DoneTurn (P L S X : List ℕ) (root node : ℕ) (acc : Bits) (q z : ℕ) (r : Told) : Type 0 where
  pub further : r.some ≡ true → q < r.q
  pub goes : r.some ≡ true → (want : Bits) → Left P L q z (node_at S X root) (node_at S X node) acc want → Left P L r.q z (node_at S X root) (node_at S X node) r.acc want

pub turn_none : {P L S X : List ℕ} {root node : ℕ} {acc : Bits} {q z : ℕ} {r : Told} → r.some ≡ false → DoneTurn P L S X root node acc q z r
turn_none o = record { further = λ t. absurd (never (sym o ∙ t)); goes = λ t. absurd (never (sym o ∙ t)) }

module _ {P L S X : List ℕ} {root node : ℕ} {acc : Bits} {q z : ℕ} (a : AskTurn P L S X root node acc q z) where
  pub turn_left : AskLeft P L S X root node q z
  turn_left = record { within = a.within; acc = acc; want = a.want; todo = a.todo; more = a.more }

  pub turn_asks : logic_kind (get_or P q 0) ≡ true → AskLogic P acc q
  turn_asks k = let w = logic_kind_lem _ k in record { few = a.within.few_p; L = L; e = z; R = _; N = _; want = _; todo = a.todo; more = a.more; low = w.0; high = w.1 }

  pub turn_logic : {r : Told} → DoneLogic P acc q r → DoneTurn P L S X root node acc q z r
  turn_logic d = record { further = λ t. d.further; goes = λ t want l. d.goes L z _ _ want l a.more }

  pub turn_plain : {r : Told} → DoneShort P L S X root node q z r → DoneTurn P L S X root node acc q z r
  turn_plain d = record { further = d.further; goes = λ t want l. d.goes t acc want l }
