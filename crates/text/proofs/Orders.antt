-- The order of texts by their bytes, along two texts.
-- Assumes nothing.
use Prim.Native.Nat.{ℕ, suc, ◌+◌, ◌≤◌, ◌<◌, min, compare, Ordering}
use native.Mathlib.Numerals.{add-one}
use native.Mathlib.Omega.{arith}
use mathlib.Core.Path.{◌≡◌, refl, sym, ap, ◌∙◌}
use mathlib.Core.Bool.{true, false, true≢false, false≢true}
use mathlib.Core.List.{List, [], ◌∷◌, ◌++◌}
use borrow.Author.Tests.{eq-eqb, ne_eqb, le-leb, lt-leb}
use lib.Dec.{is_le, compare_is_eq}
use lib.ListN.{length, drop, get_or, drop_of_length-le}
use lib.Seq.{drop-cons}
use Rattle.definition.specs.Bytes.{part, order_bytes}
use Rattle.std.specs.declared.cmp.Ordering.{Ordering as Order}
use Rattle.std.specs.Ordering.{nat_cmp, is_ne}
use Rattle.std.proofs.lemmas.Cmp.{ranked, by_ranked}
use Rattle.text.specs.Orders.{answer}
use Rattle.text.proofs.Same.{part_rest}

-- ---- how two numbers compare

-- the outcome of a comparison by two tests: at most and not equal is less
is_lt : (o : Ordering) → is_le o ≡ true → compare_is_eq o ≡ false → o ≡ Ordering.lt
is_lt Ordering.lt a b = refl
is_lt Ordering.eq a b = absurd (true≢false b)
is_lt Ordering.gt a b = absurd (false≢true a)

-- equal is equal
is_eq : (o : Ordering) → compare_is_eq o ≡ true → o ≡ Ordering.eq
is_eq Ordering.lt b = absurd (false≢true b)
is_eq Ordering.eq b = refl
is_eq Ordering.gt b = absurd (false≢true b)

-- not at most is greater
is_gt : (o : Ordering) → is_le o ≡ false → o ≡ Ordering.gt
is_gt Ordering.lt a = absurd (true≢false a)
is_gt Ordering.eq a = absurd (true≢false a)
is_gt Ordering.gt a = refl

-- a smaller number compares as less
pub compare_lt : (x y : ℕ) → x < y → compare x y ≡ Ordering.lt
compare_lt x y h = is_lt (compare x y) (le-leb x y (omega arith)) (ne_eqb x y (λ e. omega arith))

-- equal numbers compare as equal
pub compare_eq : (x y : ℕ) → x ≡ y → compare x y ≡ Ordering.eq
compare_eq x y h = is_eq (compare x y) (eq-eqb x y h)

-- a greater number compares as greater
pub compare_gt : (x y : ℕ) → y < x → compare x y ≡ Ordering.gt
compare_gt x y h = is_gt (compare x y) (lt-leb x y h)

-- ---- two first bytes

-- a smaller first byte makes a text less
head_lt : (x y : ℕ) (s t : List ℕ) → x < y → order_bytes (x ∷ s) (y ∷ t) ≡ Ordering.lt
unfolding order_bytes
head_lt x y s t h = rw (compare_lt x y h, order_bytes) refl

-- equal first bytes leave the order to the rests
head_eq : (x y : ℕ) (s t : List ℕ) → x ≡ y → order_bytes (x ∷ s) (y ∷ t) ≡ order_bytes s t
unfolding order_bytes
head_eq x y s t h = rw (compare_eq x y h, order_bytes) refl

-- a greater first byte makes a text greater
head_gt : (x y : ℕ) (s t : List ℕ) → y < x → order_bytes (x ∷ s) (y ∷ t) ≡ Ordering.gt
unfolding order_bytes
head_gt x y s t h = rw (compare_gt x y h, order_bytes) refl

-- a common front decides nothing
order_append : (p s t : List ℕ) → order_bytes (p ++ s) (p ++ t) ≡ order_bytes s t
order_append [] s t = refl
order_append (x ∷ p) s t = head_eq x x (p ++ s) (p ++ t) refl ∙ order_append p s t

-- ---- along two texts

-- equal parts decide nothing
pub order_past : (s t : List ℕ) (i n : ℕ) → part s i n ≡ part t i n → order_bytes (drop i s) (drop i t) ≡ order_bytes (drop (i + n) s) (drop (i + n) t)
order_past s t i n e = rw (← part_rest s i n, ← part_rest t i n, e) (order_append (part t i n) (drop (i + n) s) (drop (i + n) t))

module _ (s t : List ℕ) (i : ℕ) where
  -- a lower byte decides
  pub order_lower : i < length s → i < length t → get_or s i 0 < get_or t i 0 → order_bytes (drop i s) (drop i t) ≡ Ordering.lt
  order_lower hs ht h = rw (drop-cons s i 0 hs, drop-cons t i 0 ht) (head_lt (get_or s i 0) (get_or t i 0) (drop (suc i) s) (drop (suc i) t) h)

  -- a higher byte decides
  pub order_higher : i < length s → i < length t → get_or t i 0 < get_or s i 0 → order_bytes (drop i s) (drop i t) ≡ Ordering.gt
  order_higher hs ht h = rw (drop-cons s i 0 hs, drop-cons t i 0 ht) (head_gt (get_or s i 0) (get_or t i 0) (drop (suc i) s) (drop (suc i) t) h)

  -- equal bytes decide nothing
  pub order_on : i < length s → i < length t → get_or s i 0 ≡ get_or t i 0 → order_bytes (drop i s) (drop i t) ≡ order_bytes (drop (i + 1) s) (drop (i + 1) t)
  order_on hs ht h = rw (add-one, drop-cons s i 0 hs, drop-cons t i 0 ht) (head_eq (get_or s i 0) (get_or t i 0) (drop (suc i) s) (drop (suc i) t) h)

  -- the shorter text is first
  pub order_longer : i < length s → length t ≤ i → order_bytes (drop i s) (drop i t) ≡ Ordering.gt
  unfolding order_bytes
  order_longer hs ht = rw (drop-cons s i 0 hs, drop_of_length-le t ht)

  -- and a text that ends before another is less
  pub order_shorter : length s ≤ i → i < length t → order_bytes (drop i s) (drop i t) ≡ Ordering.lt
  unfolding order_bytes
  order_shorter hs ht = rw (drop_of_length-le s hs, drop-cons t i 0 ht)

  -- texts that end together are equal
  pub order_ends : length s ≤ i → length t ≤ i → order_bytes (drop i s) (drop i t) ≡ Ordering.eq
  unfolding order_bytes
  order_ends hs ht = rw (drop_of_length-le s hs, drop_of_length-le t ht)

  -- unlike bytes decide, as std compares them
  pub order_decides : i < length s → i < length t → (o : Order) → o ≡ nat_cmp (get_or s i 0) (get_or t i 0) → is_ne o ≡ true → o ≡ answer (order_bytes (drop i s) (drop i t))
  order_decides hs ht o e n =
      by_ranked _ _ _ o (ranked (get_or s i 0) (get_or t i 0) o e)
      (λ k h. k ∙ sym (ap answer (order_lower hs ht h)))
      (λ k h. absurd (false≢true (rw k at n)))
      (λ k h. k ∙ sym (ap answer (order_higher hs ht h)))

  pub order_same : (o : Order) → o ≡ nat_cmp (get_or s i 0) (get_or t i 0) → is_ne o ≡ false → get_or s i 0 ≡ get_or t i 0
  order_same o e n =
      by_ranked _ _ _ o (ranked (get_or s i 0) (get_or t i 0) o e)
      (λ k h. absurd (true≢false (rw k at n)))
      (λ k h. h)
      (λ k h. absurd (true≢false (rw k at n)))

  -- where the shorter text ends, the lengths decide
  pub order_lengths : (i ≡ min (length s) (length t)) → (o : Order) → o ≡ nat_cmp (length s) (length t) → o ≡ answer (order_bytes (drop i s) (drop i t))
  order_lengths m o e =
      by_ranked _ _ _ o (ranked (length s) (length t) o e)
      (λ k h. k ∙ sym (ap answer (order_shorter (omega arith) (omega arith))))
      (λ k h. k ∙ sym (ap answer (order_ends (omega arith) (omega arith))))
      (λ k h. k ∙ sym (ap answer (order_longer (omega arith) (omega arith))))
