-- A node and a literal by their kinds: what the kind of a node says of its value, and the comparisons that need no more. P is the plan, L the pool, S the table, X the
-- text. Assumes nothing.
use Rattle.std.specs.Prelude.{ℕ, ◌+◌, ◌<◌, ◌≡◌, List, [], Bool as Bits, true, false, not, cond, eqb, get_or}
use Rattle.std.proofs.Math.Path.{refl, sym}
use Rattle.std.proofs.Common.{ap, ◌∙◌, arith, eq-eqb, ne_eqb}
use Rattle.std.proofs.Math.Option.{none}
use Rattle.definition.specs.Values.{Json}
use Rattle.definition.specs.Forms.{Literal}
use Rattle.definition.specs.Forms.Operator.{eq}
use Rattle.definition.specs.Plans.{operator_byte}
use Rattle.definition.specs.Tables.{node_count, node_at, kind_at}
use Rattle.definition.specs.Compare.{Value, Fraction, node_value, compare_values, same, is_some, is_null, same_boolean, boolean_of, same_number, number_of, same_text, text_of, list_of, map_of}
use Rattle.definition.specs.Evaluation.{literal_value}
use Rattle.table_laws.specs.Accepted.{Accepted}
use Rattle.table_laws.specs.Nodes.{Kind, kind_of}
use Rattle.eval_values.specs.Same.{says_eq, says_ne}
use Rattle.eval_values.specs.Means.{meaning}
use Rattle.eval_values.specs.Values.{of_null, of_false, of_true, of_integer_lem, of_float_lem, of_text_lem, value_list, value_map}
use Rattle.eval_values.specs.declared.Operand.{Operand}
use Rattle.eval_values.specs.declared.Operand.TheVariants.{Null, Bool}
use Rattle.eval_items.specs.Leaves.{constant_of, DoneValue}
use Rattle.eval_items.specs.LeafLaws.{done_constant}
use Rattle.eval_filters.specs.Numbers.{IsNumber, unlike_says}
use Rattle.eval_filters.specs.Tests.{AskNode, DoneNode, compares_as}

-- ---- the kind of a value

-- as the kind of a node with that value; 8 for none
abbrev pub value_kind : Value → ℕ
value_kind Value.nothing = 8
value_kind Value.null = 0
value_kind (Value.boolean false) = 1
value_kind (Value.boolean true) = 2
value_kind (Value.integer z) = 3
value_kind (Value.float x) = 4
value_kind (Value.text s) = 5
value_kind (Value.list ks) = 6
value_kind (Value.map ks) = 7

module _ (S X : List ℕ) (tab : Accepted S X) (m : ℕ) (h : m < node_count S) where
  pub node_kind : value_kind (node_value (node_at S X m)) ≡ kind_at S m
  node_kind = by (kind_of S X tab m h)
    where
      by : Kind S m → value_kind (node_value (node_at S X m)) ≡ kind_at S m
      by (Kind.null e) = ap value_kind (sym ((of_null S X tab m h e).means [])) ∙ sym e
      by (Kind.no e) = ap value_kind (sym ((of_false S X tab m h e).means [])) ∙ sym e
      by (Kind.yes e) = ap value_kind (sym ((of_true S X tab m h e).means [])) ∙ sym e
      by (Kind.integer e) = ap value_kind (sym ((of_integer_lem S X tab m h e _ refl).means [])) ∙ sym e
      by (Kind.float e) = ap value_kind (sym ((of_float_lem S X tab m h e _ refl).means [])) ∙ sym e
      by (Kind.text e) = ap value_kind (sym ((of_text_lem S X tab m h e _ _ refl refl).means [])) ∙ sym e
      by (Kind.list e) = ap value_kind (value_list S X tab m h e) ∙ sym e
      by (Kind.map e) = ap value_kind (value_map S X tab m h e) ∙ sym e

-- every node and every literal has a value
pub node_some : (j : Json) → is_some (node_value j) ≡ true
unfolding is_some node_value
node_some (Json.null i) = refl
node_some (Json.boolean i b) = refl
node_some (Json.integer i z) = refl
node_some (Json.float i x) = refl
node_some (Json.text i s) = refl
node_some (Json.list i ks) = refl
node_some (Json.map i ks) = refl

pub literal_some : (l : Literal) → is_some (literal_value l) ≡ true
unfolding is_some literal_value
literal_some Literal.null = refl
literal_some (Literal.boolean b) = refl
literal_some (Literal.integer z) = refl
literal_some (Literal.float n) = refl
literal_some (Literal.text s) = refl

-- only kinds 3 and 4 are numbers
kind_number : (v : Value) → (value_kind v ≡ 3 → ⊥) → (value_kind v ≡ 4 → ⊥) → number_of v ≡ none
unfolding number_of
kind_number Value.nothing a b = refl
kind_number Value.null a b = refl
kind_number (Value.boolean false) a b = refl
kind_number (Value.boolean true) a b = refl
kind_number (Value.integer z) a b = absurd (a refl)
kind_number (Value.float x) a b = absurd (b refl)
kind_number (Value.text s) a b = refl
kind_number (Value.list ks) a b = refl
kind_number (Value.map ks) a b = refl

-- ---- a constant

-- whether a node of a kind has the value of the constant b
abbrev pub constant_is : ℕ → ℕ → Bits
constant_is b kind = cond (eqb b 0) (eqb kind 1) (cond (eqb b 1) (eqb kind 2) (eqb kind 0))

pub constant_no : (b kind : ℕ) → b ≡ 0 → eqb kind 1 ≡ constant_is b kind
constant_no b kind e = rw (eq-eqb b 0 e)

pub constant_yes : (b kind : ℕ) → (b ≡ 0 → ⊥) → b ≡ 1 → eqb kind 2 ≡ constant_is b kind
constant_yes b kind n e = rw (ne_eqb b 0 n, eq-eqb b 1 e)

pub constant_none : (b kind : ℕ) → (b ≡ 0 → ⊥) → (b ≡ 1 → ⊥) → eqb kind 0 ≡ constant_is b kind
constant_none b kind n m = rw (ne_eqb b 0 n, ne_eqb b 1 m)

same_no : (v : Value) → eqb (value_kind v) 1 ≡ same v (Value.boolean false)
unfolding same is_null same_boolean boolean_of same_number number_of same_text text_of list_of map_of
same_no Value.nothing = refl
same_no Value.null = refl
same_no (Value.boolean false) = refl
same_no (Value.boolean true) = refl
same_no (Value.integer z) = refl
same_no (Value.float x) = refl
same_no (Value.text s) = refl
same_no (Value.list ks) = refl
same_no (Value.map ks) = refl

same_yes : (v : Value) → eqb (value_kind v) 2 ≡ same v (Value.boolean true)
unfolding same is_null same_boolean boolean_of same_number number_of same_text text_of list_of map_of
same_yes Value.nothing = refl
same_yes Value.null = refl
same_yes (Value.boolean false) = refl
same_yes (Value.boolean true) = refl
same_yes (Value.integer z) = refl
same_yes (Value.float x) = refl
same_yes (Value.text s) = refl
same_yes (Value.list ks) = refl
same_yes (Value.map ks) = refl

same_null : (v : Value) → eqb (value_kind v) 0 ≡ same v Value.null
unfolding same is_null same_boolean boolean_of same_number number_of same_text text_of list_of map_of
same_null Value.nothing = refl
same_null Value.null = refl
same_null (Value.boolean false) = refl
same_null (Value.boolean true) = refl
same_null (Value.integer z) = refl
same_null (Value.float x) = refl
same_null (Value.text s) = refl
same_null (Value.list ks) = refl
same_null (Value.map ks) = refl

same_constant : (S X L : List ℕ) (v : Value) (b : ℕ) → constant_is b (value_kind v) ≡ same v (meaning S X L (constant_of b))
same_constant S X L v b = by (eqb b 0) (eqb b 1)
  where
    by : (x y : Bits) → cond x (eqb (value_kind v) 1) (cond y (eqb (value_kind v) 2) (eqb (value_kind v) 0)) ≡ same v (meaning S X L (cond x (Bool false) (cond y (Bool true) Null)))
    by true y = same_no v
    by false true = same_yes v
    by false false = same_null v

-- ---- from what is read to what is said

module _ {P L S X : List ℕ} {m q : ℕ} (a : AskNode P L S X m q) where
  pub constant_done : get_or P q 0 ≡ 0x13 → (b kind : ℕ) → b ≡ get_or P (q + 1) 0 → kind ≡ kind_at S m → (r : Bits) → r ≡ constant_is b kind → DoneNode P L S X m q 0 r
  constant_done c b kind e g r t =
      let v = done_constant P L q (λ z. omega arith) (λ z. omega arith) (λ z. omega arith) (constant_of b) (ap constant_of e) in
      λ l k h p w. compares_as 0 r refl ((v l k h p w).means S X)
      (says_eq _ _ 0 r refl (t ∙ ap (constant_is b) (g ∙ sym (node_kind S X a.tab m a.node_in)) ∙ same_constant S X L _ b))

  -- != is not ==
  pub differs_done : (r : Bits) → DoneNode P L S X m q 0 r → (op : ℕ) → op ≡ 1 → DoneNode P L S X m q op (not r)
  unfolding compare_values operator_byte
  differs_done r d op e l k h p w =
      let s = d l k h p w eq refl in
      says_ne _ _ op (not r) e (rw (node_some (node_at S X m), literal_some l, sym s) refl)

  -- a number and a node that is none
  module _ (n : kind_at S m ≡ 3 → ⊥) (o : kind_at S m ≡ 4 → ⊥) where
    no_number : number_of (node_value (node_at S X m)) ≡ none
    no_number = let k = node_kind S X a.tab m a.node_in in kind_number _ (λ z. n (sym k ∙ z)) (λ z. o (sym k ∙ z))

    pub unlike_done : {b : Fraction} (y : Operand) → IsNumber (meaning S X L y) b → DoneValue P L q y → (op : ℕ) (r : Bits) → r ≡ eqb op 1 → DoneNode P L S X m q op r
    unlike_done y i d op r t l k h p w = compares_as op r refl ((d l k h p w).means S X) (unlike_says i _ no_number (node_some _) op r t)
