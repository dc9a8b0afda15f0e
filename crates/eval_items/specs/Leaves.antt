-- What an item says by itself. Each answer holds for every form whose code stands there. P is the plan, L the pool, S the table, X the text.
-- Assumes nothing: these are definitions.
use Rattle.std.specs.Prelude.{ℕ, ◌+◌, ◌≤◌, ◌<◌, ◌≡◌, List, [], ◌∷◌, Bool as Bits, true, false, cond, ◌&&◌, eqb, ℤ, length, get_or, Option as Maybe, Some, None}
use Rattle.std.proofs.Math.Option.{Option}
use Rattle.definition.specs.Limits.{max_plan, max_nodes}
use Rattle.definition.specs.Values.{Json}
use Rattle.definition.specs.Forms.{Literal, Selector}
use Rattle.definition.specs.QueryForms.{literal_right, bound_right}
use Rattle.definition.specs.Plans.{code_literal, code_slice, pool_literal}
use Rattle.definition.specs.Tables.{node_count, node_at, depth_at, kind_at, kind_list, child_count, low_word}
use Rattle.definition.specs.Evaluation.{literal_value, eval_selector}
use Rattle.table_laws.specs.Accepted.{Accepted}
use Rattle.slices.specs.Walks.{Selects, Inside, walked}
use Rattle.slices.specs.declared.Walk.{Walk}
use Rattle.eval_laws.specs.Bytes.{Holds}
use Rattle.eval_laws.specs.Items.{SelectorAt}
use Rattle.eval_laws.specs.Operations.{asked, ask_of}
use Rattle.eval_laws.specs.Todos.{Todo}
use Rattle.eval_values.specs.Means.{meaning, Fine, Pair}
use Rattle.eval_values.specs.declared.Operand.{Operand}
use Rattle.eval_values.specs.declared.Operand.TheVariants.{Null, Bool}
use Rattle.eval_items.specs.declared.Regs.{Regs}

-- ---- literals

abbrev pub constant_of : ℕ → Operand
constant_of b = cond (eqb b 0) (Bool false) (cond (eqb b 1) (Bool true) Null)

-- r is the operand of the literal l, whatever the table
pub record ValueOf (L : List ℕ) (r : Operand) (l : Literal) : Type 0 where
  pub means : (S X : List ℕ) → meaning S X L r ≡ literal_value l
  pub fine : (S X : List ℕ) → Fine S X L r

pub record AskValue (P L : List ℕ) (q : ℕ) : Type 0 where
  pub few : length L ≤ max_plan
  pub l : Literal
  pub k : ℕ
  pub holds : Holds P q (code_literal l k)
  pub pool : Holds L k (pool_literal l)
  pub right : literal_right l ≡ true

abbrev pub DoneValue : List ℕ → List ℕ → ℕ → Operand → Type 0
DoneValue P L q r = (l : Literal) (k : ℕ) → Holds P q (code_literal l k) → Holds L k (pool_literal l) → literal_right l ≡ true → ValueOf L r l

-- ---- names and indices

abbrev pub member_nodes : List ℕ → List ℕ → Maybe ℕ → List Json
member_nodes S X (Some m) = node_at S X m ∷ []
member_nodes S X None = []

pub record AskOne (P L S X : List ℕ) (p node low high : ℕ) : Type 0 where
  pub few_p : length P ≤ max_plan
  pub few_l : length L ≤ max_plan
  pub tab : Accepted S X
  pub node_in : node < node_count S
  pub x : Selector
  pub k : ℕ
  pub at : SelectorAt P L p k x
  pub kind_low : low ≤ get_or P p 0
  pub kind_high : get_or P p 0 ≤ high

pub record DoneOne (P L S X : List ℕ) (p node : ℕ) (r : Maybe ℕ) : Type 0 where
  pub selects : (x : Selector) (k : ℕ) (R : Json) → SelectorAt P L p k x → eval_selector x R (node_at S X node) ≡ member_nodes S X r
  pub inside : (m : ℕ) → r ≡ Some m → m < node_count S
  pub deeper : (m : ℕ) → r ≡ Some m → depth_at S m ≡ depth_at S node + 1
  pub low : (m : ℕ) → r ≡ Some m → low_word S node ≤ m

-- ---- slices

pub record AskSlice (P : List ℕ) (p n : ℕ) : Type 0 where
  pub few : n ≤ max_nodes
  pub a : Option ℤ
  pub b : Option ℤ
  pub c : Option ℤ
  pub holds : Holds P p (code_slice a b c)
  pub right : (bound_right a && (bound_right b && bound_right c)) ≡ true

abbrev pub DoneSlice : List ℕ → ℕ → ℕ → Walk → Type 0
DoneSlice P p n r = (a b c : Option ℤ) → Holds P p (code_slice a b c) → (bound_right a && (bound_right b && bound_right c)) ≡ true → Selects n a b c r

pub record AskWalk (P S : List ℕ) (p node : ℕ) : Type 0 where
  pub node_in : node < node_count S
  pub ask : AskSlice P p (child_count S node)

pub record DoneWalk (P S : List ℕ) (p node : ℕ) (r : Walk) : Type 0 where
  pub of_list : kind_at S node ≡ kind_list → DoneSlice P p (child_count S node) r
  pub of_other : (kind_at S node ≡ kind_list → ⊥) → walked r ≡ []
  pub inside : Inside (child_count S node) r

-- ---- operations

-- what is left of a filter's code, with the registers of the code
abbrev pub Doing : List ℕ → List ℕ → List ℕ → List ℕ → Regs → ℕ → Json → Json → Bits → Type 0
Doing P L S X s e R N want = Todo P L s.q e R N s.acc (meaning S X L s.x) (meaning S X L s.y) want

pub record AskOp (P L S X : List ℕ) (s : Regs) (low high : ℕ) : Type 0 where
  pub few_p : length P ≤ max_plan
  pub few_l : length L ≤ max_plan
  pub tab : Accepted S X
  pub pair : Pair S X L s.x s.y
  pub e : ℕ
  pub R : Json
  pub N : Json
  pub want : Bits
  pub todo : Doing P L S X s e R N want
  pub more : s.q < e
  pub kind_low : low ≤ get_or P s.q 0
  pub kind_high : get_or P s.q 0 ≤ high

pub record DoneOp (P L S X : List ℕ) (s r : Regs) : Type 0 where
  pub pair : Pair S X L r.x r.y
  pub further : s.q < r.q
  pub goes : (e : ℕ) (R N : Json) (want : Bits) → Doing P L S X s e R N want → s.q < e → Doing P L S X r e R N want

-- ---- queries

-- the node that a query of kind 1 (`$`) or 2 (`@`) begins at
abbrev pub begins_at : ℕ → ℕ → ℕ → ℕ
begins_at k root node = cond (eqb k 1) root node

-- the cap of evaluation by the byte that asks something of the query
abbrev pub cap_for : ℕ → ℕ
cap_for m = (asked (ask_of m)).cap
