-- Two numbers by an operator, integers and floats alike: each is a fraction, and the order of the two fractions says it. A number and any other value are unlike.
-- Assumes nothing.
use Prim.Native.Nat.{ℕ, ◌-◌, ◌≤◌, ◌<◌, Ordering}
use Rattle.std.specs.Prelude.{◌≡◌, List, Bool as Bits, true, not, cond, ◌&&◌, ◌||◌, ℤ, Float}
use Rattle.std.proofs.Math.Path.{refl, sym, ap}
use Rattle.std.proofs.Common.{◌∙◌, subst, arith, eq-eqb, ne_eqb}
use Rattle.std.proofs.Math.Bool.{false, beq}
use Rattle.std.proofs.Math.Option.{Option, none, some}
use Rattle.std.proofs.Math.Dec.{eqb, compare_is_eq}
use Rattle.definition.specs.Bytes.{same_bytes}
use Rattle.definition.specs.Values.{Kids, many}
use Rattle.definition.specs.Forms.Operator.{eq, ne, lt, le, gt, ge}
use Rattle.definition.specs.Plans.{operator_byte}
use Rattle.definition.specs.Compare.{Value, Fraction, compare_values, same, less, less_or_same, is_less, is_some, is_boolean, is_null, boolean_of, same_boolean, same_number, same_text, number_of, text_of, numbers_less, texts_less, list_of, map_of, same_elements, same_members, whole_fraction, float_fraction, order_fractions}
use Rattle.number_order.specs.Exact.{answer, order_of}
use Rattle.std.specs.declared.cmp.Ordering.{Ordering as Order}
use Rattle.std.specs.declared.cmp.Ordering.TheVariants.{Less, Equal, Greater}
use Rattle.eval_values.specs.Alike.{Compares, differ}

-- ---- what an order says

-- whether ==, !=, < or <= holds between numbers in that order
abbrev pub says_of : ℕ → Order → Bits
says_of op Less = not (eqb op 0)
says_of op Equal = cond (eqb op 0) true (eqb op 3)
says_of op Greater = eqb op 1

pub says_yes : (op : ℕ) → op ≡ 0 → true ≡ says_of op Equal
says_yes op e = rw (eq-eqb op 0 e)

pub says_no : (op : ℕ) → (op ≡ 0 → ⊥) → eqb op 3 ≡ says_of op Equal
says_no op e = rw (ne_eqb op 0 e)

eq_says : (t : Ordering) → says_of 0 (answer t) ≡ compare_is_eq t
eq_says Ordering.lt = refl
eq_says Ordering.eq = refl
eq_says Ordering.gt = refl

ne_says : (t : Ordering) → says_of 1 (answer t) ≡ not (compare_is_eq t)
ne_says Ordering.lt = refl
ne_says Ordering.eq = refl
ne_says Ordering.gt = refl

lt_says : (t : Ordering) → says_of 2 (answer t) ≡ (is_less t || false)
unfolding is_less
lt_says Ordering.lt = refl
lt_says Ordering.eq = refl
lt_says Ordering.gt = refl

le_says : (t : Ordering) → says_of 3 (answer t) ≡ ((is_less t || false) || (compare_is_eq t && true))
unfolding is_less
le_says Ordering.lt = refl
le_says Ordering.eq = refl
le_says Ordering.gt = refl

-- ---- a value that is a number

pub record IsNumber (v : Value) (a : Fraction) : Type 0 where
  pub number : number_of v ≡ some a
  pub no_text : text_of v ≡ none
  pub no_boolean : boolean_of v ≡ none
  pub not_boolean : is_boolean v ≡ false
  pub no_list : list_of v ≡ none
  pub no_map : map_of v ≡ none
  pub no_null : is_null v ≡ false
  pub there : is_some v ≡ true
  pub equals : (w : Value) → same v w ≡ same_number a w

pub integer_is : (z : ℤ) → IsNumber (Value.integer z) (whole_fraction z)
unfolding number_of text_of boolean_of is_boolean list_of map_of is_null is_some same
integer_is z = record { number = refl; no_text = refl; no_boolean = refl; not_boolean = refl; no_list = refl; no_map = refl; no_null = refl; there = refl; equals = λ w. refl }

pub float_is : (x : Float) → IsNumber (Value.float x) (float_fraction x)
unfolding number_of text_of boolean_of is_boolean list_of map_of is_null is_some same
float_is x = record { number = refl; no_text = refl; no_boolean = refl; not_boolean = refl; no_list = refl; no_map = refl; no_null = refl; there = refl; equals = λ w. refl }

-- an integer that the machine gives back as it was
pub integer_at : (z y : ℤ) → y ≡ z → IsNumber (Value.integer z) (whole_fraction y)
integer_at z y e = subst (λ (x : ℤ). IsNumber (Value.integer z) (whole_fraction x)) (sym e) (integer_is z)

-- ---- two numbers

module _ {v w : Value} {a b : Fraction} (i : IsNumber v a) (j : IsNumber w b) where
  numbers_same : compare_is_eq (order_fractions a b) ≡ same v w
  unfolding same_number
  numbers_same = sym (ap (λ (o : Option Fraction). elim o [ none ↦ false | some c ↦ compare_is_eq (order_fractions a c) ]) j.number) ∙ sym (i.equals w)

  numbers_less_lem : (is_less (order_fractions a b) || false) ≡ less v w
  unfolding less numbers_less texts_less
  numbers_less_lem = rw (i.number, j.number, i.no_text) refl

  numbers_differ : not (compare_is_eq (order_fractions a b)) ≡ differ v w
  numbers_differ = rw (i.there, j.there, sym numbers_same) refl

  numbers_most : ((is_less (order_fractions a b) || false) || (compare_is_eq (order_fractions a b) && true)) ≡ less_or_same v w
  unfolding less_or_same
  numbers_most = rw (sym numbers_less_lem, sym numbers_same, i.not_boolean) refl

  -- ==, !=, < and <= by that order; > and >= by the other
  low_says : (op : ℕ) → op ≤ 3 → Compares v w op (says_of op (answer (order_fractions a b)))
  unfolding compare_values operator_byte
  low_says op l eq e = rw (sym e) (eq_says (order_fractions a b) ∙ numbers_same)
  low_says op l ne e = rw (sym e) (ne_says (order_fractions a b) ∙ numbers_differ)
  low_says op l lt e = rw (sym e) (lt_says (order_fractions a b) ∙ numbers_less_lem)
  low_says op l le e = rw (sym e) (le_says (order_fractions a b) ∙ numbers_most)
  low_says op l gt e = absurd (omega arith)
  low_says op l ge e = absurd (omega arith)

  high_says : (op : ℕ) → 3 < op → Compares w v op (says_of (op - 2) (answer (order_fractions a b)))
  unfolding compare_values operator_byte
  high_says op l eq e = absurd (omega arith)
  high_says op l ne e = absurd (omega arith)
  high_says op l lt e = absurd (omega arith)
  high_says op l le e = absurd (omega arith)
  high_says op l gt e = rw (sym e) (lt_says (order_fractions a b) ∙ numbers_less_lem)
  high_says op l ge e = rw (sym e) (le_says (order_fractions a b) ∙ numbers_most)

  pub numbers_low : (op : ℕ) → op ≤ 3 → (o : Order) (r : Bits) → o ≡ answer (order_of a b) → r ≡ says_of op o → Compares v w op r
  numbers_low op l o r d e = let t : r ≡ says_of op (answer (order_fractions a b)) = e ∙ ap (says_of op) d in λ x y. t ∙ low_says op l x y

  pub numbers_high : (op : ℕ) → 3 < op → (o : Order) (r : Bits) → o ≡ answer (order_of a b) → r ≡ says_of (op - 2) o → Compares w v op r
  numbers_high op l o r d e = let t : r ≡ says_of (op - 2) (answer (order_fractions a b)) = e ∙ ap (says_of (op - 2)) d in λ x y. t ∙ high_says op l x y

-- ---- a number and another value

no_number : (a : Fraction) → some a ≡ none → ⊥
no_number a e = let n : ◌≡◌ {A = ℕ} 1 0 = ap (λ (o : Option Fraction). elim o [ none ↦ 0 | some c ↦ 1 ]) e in omega arith

texts_none : (o : Option (List ℕ)) → texts_less o none ≡ false
unfolding texts_less
texts_none none = refl
texts_none (some s) = refl

module _ {w : Value} {b : Fraction} (j : IsNumber w b) where
  other_same : (v : Value) → number_of v ≡ none → same v w ≡ false
  unfolding same same_boolean same_text number_of
  other_same Value.nothing n = refl
  other_same Value.null n = j.no_null
  other_same (Value.boolean x) n = ap (λ (o : Option Bits). elim o [ none ↦ false | some c ↦ beq x c ]) j.no_boolean
  other_same (Value.integer z) n = absurd (no_number _ n)
  other_same (Value.float x) n = absurd (no_number _ n)
  other_same (Value.text s) n = ap (λ (o : Option (List ℕ)). elim o [ none ↦ false | some t ↦ same_bytes s t ]) j.no_text
  other_same (Value.list ks) n = ap (λ (o : Option Kids). elim o [ none ↦ false | some ls ↦ same_elements ks ls ]) j.no_list
  other_same (Value.map ks) n = ap (λ (o : Option Kids). elim o [ none ↦ false | some ls ↦ eqb (many ks) (many ls) && same_members ks ls ]) j.no_map

  module _ (v : Value) (n : number_of v ≡ none) (s : is_some v ≡ true) where
    number_same : same w v ≡ false
    unfolding same_number
    number_same = j.equals v ∙ ap (λ (o : Option Fraction). elim o [ none ↦ false | some c ↦ compare_is_eq (order_fractions b c) ]) n

    other_less : less v w ≡ false
    unfolding less numbers_less
    other_less = rw (n, j.no_text) (texts_none (text_of v))

    number_less : less w v ≡ false
    unfolding less numbers_less texts_less
    number_less = rw (n, j.number, j.no_text) refl

    pub unlike_says : (op : ℕ) (r : Bits) → r ≡ eqb op 1 → Compares v w op r
    unfolding compare_values operator_byte less_or_same
    unlike_says op r t eq e = t ∙ rw (sym e, other_same v n) refl
    unlike_says op r t ne e = t ∙ rw (sym e, other_same v n, s, j.there) refl
    unlike_says op r t lt e = t ∙ rw (sym e, other_less) refl
    unlike_says op r t le e = t ∙ rw (sym e, other_less, other_same v n) refl
    unlike_says op r t gt e = t ∙ rw (sym e, number_less) refl
    unlike_says op r t ge e = t ∙ rw (sym e, number_less, number_same) refl
