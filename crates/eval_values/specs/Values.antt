-- The operand that a node is, and what an operand says of its value. Assumes nothing.
use Prim.Native.Nat.{ℕ, ◌≤◌, ◌<◌, compare, Ordering}
use Rattle.std.specs.Prelude.{◌≡◌, List, [], ◌∷◌, Bool as Bits, ◌||◌, ◌&&◌, eqb, ℤ, Float as Floating, None}
use Rattle.std.proofs.Math.Path.{refl, sym, ap, subst}
use Rattle.std.proofs.Common.{◌∙◌}
use Rattle.std.proofs.Math.Bool.{true, false, not}
use Rattle.std.proofs.Math.Option.{Option, none, some}
use native.Mathlib.Omega.{arith}
use Rattle.std.proofs.Math.Dec.{T, compare_is_eq}
use Rattle.std.specs.Float.{binary64}
use Rattle.std.specs.Float.Ieee.{of_bits}
use Rattle.std.specs.Float.Ieee.Scale.{finite}
use Rattle.definition.specs.Bytes.{part, signed64, same_bytes, order_bytes}
use Rattle.definition.specs.Values.{Kids}
use Rattle.definition.specs.Tables.{node_count, kind_at, kind_float, kind_text, kind_list, kind_map, payload, low_word, high_word, child_count, node_at}
use Rattle.definition.specs.Compare.{Value, Fraction, node_value, number_of, text_of, same, same_number, same_text, same_boolean, is_null, is_some, is_boolean, boolean_of, less, is_less, numbers_less, texts_less, order_fractions, whole_fraction, float_fraction}
use Rattle.definition.specs.Evaluation.{truth, length_of_value}
use Rattle.definition_bytes.specs.Same.{part_length}
use Rattle.table_laws.specs.Accepted.{Accepted}
use Rattle.table_laws.specs.Rights.{good_inside, good_utf8}
use Rattle.table_laws.specs.Nodes.{kids_at, unrolled, kind_of, Kind, many_kids, by_null, by_false, by_true, by_integer, by_float, by_text_lem, by_list, by_map}
use Rattle.eval_values.specs.declared.Operand.{Operand}
use Rattle.eval_values.specs.declared.Operand.TheVariants.{Nothing, Null, Bool, Int, Float, Pool, Text, Node}
use Rattle.eval_values.specs.Means.{meaning, Fine, OfNode, Pair, Ranked, Finite, Parts, Inside, number_in, text_in, some_of, boolean_is, null_is, is_that, truth_in, length_in}
use Rattle.eval_values.specs.Ranks.{rank, rank_in, rank_numbers, rank_texts, ranked, is_rank_less, is_rank_equal}
use Rattle.eval_values.specs.Floats.{bits_finite}

-- ---- a node by its kind

module _ (S X : List ℕ) (tab : Accepted S X) (i : ℕ) (h : i < node_count S) where
  pub of_null : kind_at S i ≡ 0 → OfNode S X i Null
  unfolding node_value
  of_null e = record { means = λ L. sym (ap node_value (unrolled S X tab i h ∙ by_null S X i (kids_at S X i) e)); fine = λ L. tt; itself = tt }

  pub of_false : kind_at S i ≡ 1 → OfNode S X i (Bool false)
  unfolding node_value
  of_false e = record { means = λ L. sym (ap node_value (unrolled S X tab i h ∙ by_false S X i (kids_at S X i) e)); fine = λ L. tt; itself = tt }

  pub of_true : kind_at S i ≡ 2 → OfNode S X i (Bool true)
  unfolding node_value
  of_true e = record { means = λ L. sym (ap node_value (unrolled S X tab i h ∙ by_true S X i (kids_at S X i) e)); fine = λ L. tt; itself = tt }

  pub of_integer_lem : kind_at S i ≡ 3 → (z : ℤ) → z ≡ signed64 (payload S i) → OfNode S X i (Int z)
  unfolding node_value
  of_integer_lem e z w = record { means = λ L. ap Value.integer w ∙ sym (ap node_value (unrolled S X tab i h ∙ by_integer S X i (kids_at S X i) e)); fine = λ L. tt; itself = tt }

  pub of_float_lem : kind_at S i ≡ kind_float → (x : Floating) → x ≡ of_bits binary64 (payload S i) → OfNode S X i (Float x)
  unfolding node_value
  of_float_lem e x w =
      record {
        means = λ L. ap Value.float w ∙ sym (ap node_value (unrolled S X tab i h ∙ by_float S X i (kids_at S X i) e));
        fine = λ L. subst (λ (y : Floating). T (finite y)) (sym w) (bits_finite (payload S i) (tab.floats i h e));
        itself = tt;
      }

  pub of_text_lem : kind_at S i ≡ kind_text → (a n : ℕ) → a ≡ low_word S i → n ≡ high_word S i → OfNode S X i (Text a n)
  unfolding node_value
  of_text_lem e a n p q =
      let g = good_inside X (low_word S i) (high_word S i) (tab.texts i h e) in
      record {
        means = λ L. ap (λ (k : ℕ). Value.text (part X k n)) p ∙ ap (λ (k : ℕ). Value.text (part X (low_word S i) k)) q ∙ sym (ap node_value (unrolled S X tab i h ∙ by_text_lem S X i (kids_at S X i) e));
        fine = λ L. (omega arith, rw (p, q) (good_utf8 X (low_word S i) (high_word S i) (tab.texts i h e)));
        itself = tt;
      }

  -- the value of a list, and of a map
  pub value_list : kind_at S i ≡ kind_list → node_value (node_at S X i) ≡ Value.list (kids_at S X i)
  unfolding node_value
  value_list e = ap node_value (unrolled S X tab i h ∙ by_list S X i (kids_at S X i) e)

  pub value_map : kind_at S i ≡ kind_map → node_value (node_at S X i) ≡ Value.map (kids_at S X i)
  unfolding node_value
  value_map e = ap node_value (unrolled S X tab i h ∙ by_map S X i (kids_at S X i) e)

  -- a list or a map
  pub data Nested : Type 0 where
    list : kind_at S i ≡ kind_list → Nested
    map : kind_at S i ≡ kind_map → Nested

  pub nested : kind_list ≤ kind_at S i → Nested
  nested l = go (kind_of S X tab i h)
    where
      go : Kind S i → Nested
      go (Kind.null e) = absurd (omega arith)
      go (Kind.no e) = absurd (omega arith)
      go (Kind.yes e) = absurd (omega arith)
      go (Kind.integer e) = absurd (omega arith)
      go (Kind.float e) = absurd (omega arith)
      go (Kind.text e) = absurd (omega arith)
      go (Kind.list e) = list e
      go (Kind.map e) = map e

  -- what holds of every list and of every map holds of the value of such a node
  pub nested_value : {B : Type 0} (f : Value → B) (d : B) → ((ks : Kids) → f (Value.list ks) ≡ d) → ((ks : Kids) → f (Value.map ks) ≡ d) → kind_list ≤ kind_at S i → f (node_value (node_at S X i)) ≡ d
  nested_value {B} f d a b l = go (nested l)
    where
      go : Nested → f (node_value (node_at S X i)) ≡ d
      go (list e) = ap f (value_list e) ∙ a (kids_at S X i)
      go (map e) = ap f (value_map e) ∙ b (kids_at S X i)

  -- how many children such a node has
  pub nested_many : kind_list ≤ kind_at S i → length_of_value (node_value (node_at S X i)) ≡ child_count S i
  unfolding length_of_value
  nested_many l = go (nested l)
    where
      go : Nested → length_of_value (node_value (node_at S X i)) ≡ child_count S i
      go (list e) = ap length_of_value (value_list e) ∙ many_kids S X _ _
      go (map e) = ap length_of_value (value_map e) ∙ many_kids S X _ _

  pub nested_truth : kind_list ≤ kind_at S i → truth (node_value (node_at S X i)) ≡ not (eqb (child_count S i) 0)
  unfolding truth
  nested_truth l = go (nested l)
    where
      go : Nested → truth (node_value (node_at S X i)) ≡ not (eqb (child_count S i) 0)
      go (list e) = ap truth (value_list e) ∙ ap (λ (n : ℕ). not (eqb n 0)) (many_kids S X _ _)
      go (map e) = ap truth (value_map e) ∙ ap (λ (n : ℕ). not (eqb n 0)) (many_kids S X _ _)

-- ---- what an operand says is what its value says

module _ (S X L : List ℕ) (tab : Accepted S X) where
  pub some_means : (x : Operand) → Fine S X L x → some_of x ≡ is_some (meaning S X L x)
  unfolding is_some
  some_means Nothing f = refl
  some_means Null f = refl
  some_means (Bool b) f = refl
  some_means (Int z) f = refl
  some_means (Float x) f = refl
  some_means (Pool a n) f = refl
  some_means (Text a n) f = refl
  some_means (Node i) f = sym (nested_value S X tab i f.0 is_some true (λ ks. refl) (λ ks. refl) f.1)

  pub boolean_means : (x : Operand) → Fine S X L x → boolean_is x ≡ is_boolean (meaning S X L x)
  unfolding is_boolean boolean_of
  boolean_means Nothing f = refl
  boolean_means Null f = refl
  boolean_means (Bool b) f = refl
  boolean_means (Int z) f = refl
  boolean_means (Float x) f = refl
  boolean_means (Pool a n) f = refl
  boolean_means (Text a n) f = refl
  boolean_means (Node i) f = sym (nested_value S X tab i f.0 is_boolean false (λ ks. refl) (λ ks. refl) f.1)

  pub null_means : (x : Operand) → Fine S X L x → null_is x ≡ is_null (meaning S X L x)
  unfolding is_null
  null_means Nothing f = refl
  null_means Null f = refl
  null_means (Bool b) f = refl
  null_means (Int z) f = refl
  null_means (Float x) f = refl
  null_means (Pool a n) f = refl
  null_means (Text a n) f = refl
  null_means (Node i) f = sym (nested_value S X tab i f.0 is_null false (λ ks. refl) (λ ks. refl) f.1)

  pub that_means : (b : Bits) (x : Operand) → Fine S X L x → is_that b x ≡ same_boolean b (meaning S X L x)
  unfolding same_boolean boolean_of
  that_means b Nothing f = refl
  that_means b Null f = refl
  that_means b (Bool d) f = refl
  that_means b (Int z) f = refl
  that_means b (Float x) f = refl
  that_means b (Pool a n) f = refl
  that_means b (Text a n) f = refl
  that_means b (Node i) f = sym (nested_value S X tab i f.0 (same_boolean b) false (λ ks. refl) (λ ks. refl) f.1)

  pub number_means : (x : Operand) → Fine S X L x → number_in x ≡ number_of (meaning S X L x)
  unfolding number_of
  number_means Nothing f = refl
  number_means Null f = refl
  number_means (Bool d) f = refl
  number_means (Int z) f = refl
  number_means (Float x) f = refl
  number_means (Pool a n) f = refl
  number_means (Text a n) f = refl
  number_means (Node i) f = sym (nested_value S X tab i f.0 number_of none (λ ks. refl) (λ ks. refl) f.1)

  pub text_means : (x : Operand) → Fine S X L x → text_in X L x ≡ text_of (meaning S X L x)
  unfolding text_of
  text_means Nothing f = refl
  text_means Null f = refl
  text_means (Bool d) f = refl
  text_means (Int z) f = refl
  text_means (Float x) f = refl
  text_means (Pool a n) f = refl
  text_means (Text a n) f = refl
  text_means (Node i) f = sym (nested_value S X tab i f.0 text_of none (λ ks. refl) (λ ks. refl) f.1)

  pub rank_means : (x y : Operand) → Pair S X L x y → rank_in X L x y ≡ rank (meaning S X L x) (meaning S X L y)
  unfolding rank
  rank_means Nothing y f = refl
  rank_means Null y f = refl
  rank_means (Bool d) y f = refl
  rank_means (Int z) y f = ap (rank_numbers (some (whole_fraction z))) (number_means y f.second)
  rank_means (Float x) y f = ap (rank_numbers (some (float_fraction x))) (number_means y f.second)
  rank_means (Pool a n) y f = ap (rank_texts (some (part L a n))) (text_means y f.second)
  rank_means (Text a n) y f = ap (rank_texts (some (part X a n))) (text_means y f.second)
  rank_means (Node i) y f = let g = f.first in sym (nested_value S X tab i g.0 (λ v. rank v (meaning S X L y)) None (λ ks. refl) (λ ks. refl) g.1)

  pub truth_means : (x : Operand) → Fine S X L x → truth_in S x ≡ truth (meaning S X L x)
  unfolding truth
  truth_means Nothing f = refl
  truth_means Null f = refl
  truth_means (Bool d) f = refl
  truth_means (Int z) f = refl
  truth_means (Float x) f = refl
  truth_means (Pool a n) f = ap (λ (k : ℕ). not (eqb k 0)) (sym (part_length L a n f.0))
  truth_means (Text a n) f = ap (λ (k : ℕ). not (eqb k 0)) (sym (part_length X a n f.0))
  truth_means (Node i) f = sym (nested_truth S X tab i f.0 f.1)

  pub length_means : (x : Operand) → Fine S X L x → length_in S X L x ≡ length_of_value (meaning S X L x)
  unfolding length_of_value
  length_means Nothing f = refl
  length_means Null f = refl
  length_means (Bool d) f = refl
  length_means (Int z) f = refl
  length_means (Float x) f = refl
  length_means (Pool a n) f = refl
  length_means (Text a n) f = refl
  length_means (Node i) f = sym (nested_many S X tab i f.0 f.1)

  -- what a rank asks, and what the table's readers ask
  pub finite_of : (x : Operand) → Fine S X L x → Finite x
  finite_of Nothing f = tt
  finite_of Null f = tt
  finite_of (Bool d) f = tt
  finite_of (Int z) f = tt
  finite_of (Float x) f = f
  finite_of (Pool a n) f = tt
  finite_of (Text a n) f = tt
  finite_of (Node i) f = tt

  pub parts_of : (x : Operand) → Fine S X L x → Parts X L x
  parts_of Nothing f = tt
  parts_of Null f = tt
  parts_of (Bool d) f = tt
  parts_of (Int z) f = tt
  parts_of (Float x) f = tt
  parts_of (Pool a n) f = f.0
  parts_of (Text a n) f = f.0
  parts_of (Node i) f = tt

  pub inside_of : (x : Operand) → Fine S X L x → Inside S x
  inside_of Nothing f = tt
  inside_of Null f = tt
  inside_of (Bool d) f = tt
  inside_of (Int z) f = tt
  inside_of (Float x) f = f
  inside_of (Pool a n) f = tt
  inside_of (Text a n) f = tt
  inside_of (Node i) f = f.0

  pub ranked_of : (x y : Operand) → Pair S X L x y → Ranked X L x y
  ranked_of x y f = record { finite_x = finite_of x f.first; finite_y = finite_of y f.second; parts_x = parts_of x f.first; parts_y = parts_of y f.second }

-- ---- ranks and the definition's order

less_ranked : (o : Ordering) → is_rank_less (ranked o) ≡ is_less o
unfolding is_less
less_ranked Ordering.lt = refl
less_ranked Ordering.eq = refl
less_ranked Ordering.gt = refl

equal_ranked : (o : Ordering) → is_rank_equal (ranked o) ≡ compare_is_eq o
equal_ranked Ordering.lt = refl
equal_ranked Ordering.eq = refl
equal_ranked Ordering.gt = refl

less_numbers : (a : Fraction) (b : Option Fraction) → is_rank_less (rank_numbers (some a) b) ≡ (numbers_less (some a) b || false)
unfolding numbers_less
less_numbers a none = refl
less_numbers a (some b) = less_ranked (order_fractions a b) ∙ or_false (is_less (order_fractions a b))
  where
    or_false : (t : Bits) → t ≡ (t || false)
    or_false true = refl
    or_false false = refl

less_texts : (a : List ℕ) (b : Option (List ℕ)) → is_rank_less (rank_texts (some a) b) ≡ texts_less (some a) b
unfolding texts_less
less_texts a none = refl
less_texts a (some b) = less_ranked (order_bytes a b)

-- one value is less than another where it ranks so
pub rank_less : (v w : Value) → is_rank_less (rank v w) ≡ less v w
unfolding rank less number_of text_of numbers_less texts_less
rank_less Value.nothing w = refl
rank_less Value.null w = refl
rank_less (Value.boolean b) w = refl
rank_less (Value.integer z) w = less_numbers (whole_fraction z) (number_of w)
rank_less (Value.float x) w = less_numbers (float_fraction x) (number_of w)
rank_less (Value.text s) w = less_texts s (text_of w)
rank_less (Value.list ks) w = refl
rank_less (Value.map ks) w = refl

equal_numbers : (a : Fraction) (w : Value) → is_rank_equal (rank_numbers (some a) (number_of w)) ≡ same_number a w
unfolding same_number
equal_numbers a w = go (number_of w)
  where
    go : (o : Option Fraction) → is_rank_equal (rank_numbers (some a) o) ≡ elim o [ none ↦ false | some b ↦ compare_is_eq (order_fractions a b) ]
    go none = refl
    go (some b) = equal_ranked (order_fractions a b)

-- texts are equal where no byte decides between them
equal_bytes : (s t : List ℕ) → compare_is_eq (order_bytes s t) ≡ same_bytes s t
unfolding order_bytes same_bytes
equal_bytes [] [] = refl
equal_bytes [] (y ∷ t) = refl
equal_bytes (x ∷ s) [] = refl
equal_bytes (x ∷ s) (y ∷ t) = go (compare x y) (equal_bytes s t)
  where
    go : (o : Ordering) → compare_is_eq (order_bytes s t) ≡ same_bytes s t → compare_is_eq (elim o [ Ordering.lt ↦ Ordering.lt | Ordering.eq ↦ order_bytes s t | Ordering.gt ↦ Ordering.gt ]) ≡ (compare_is_eq o && same_bytes s t)
    go Ordering.lt h = refl
    go Ordering.eq h = h
    go Ordering.gt h = refl

-- and rank so
pub equal_spelled : (s t : List ℕ) → is_rank_equal (ranked (order_bytes s t)) ≡ same_bytes s t
equal_spelled s t = equal_ranked (order_bytes s t) ∙ equal_bytes s t

equal_texts : (a : List ℕ) (w : Value) → is_rank_equal (rank_texts (some a) (text_of w)) ≡ same_text a w
unfolding same_text
equal_texts a w = go (text_of w)
  where
    go : (o : Option (List ℕ)) → is_rank_equal (rank_texts (some a) o) ≡ elim o [ none ↦ false | some b ↦ same_bytes a b ]
    go none = refl
    go (some b) = equal_spelled a b

-- numbers and texts are equal where they rank so
pub rank_integer : (z : ℤ) (w : Value) → is_rank_equal (rank (Value.integer z) w) ≡ same (Value.integer z) w
unfolding rank same
rank_integer z w = equal_numbers (whole_fraction z) w

pub rank_float : (x : Floating) (w : Value) → is_rank_equal (rank (Value.float x) w) ≡ same (Value.float x) w
unfolding rank same
rank_float x w = equal_numbers (float_fraction x) w

pub rank_text : (s : List ℕ) (w : Value) → is_rank_equal (rank (Value.text s) w) ≡ same (Value.text s) w
unfolding rank same
rank_text s w = equal_texts s w
