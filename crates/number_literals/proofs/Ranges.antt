-- What is beyond the range of literals, and that a number kept at the limit is beyond it as the number itself is. Assumes nothing.
use mathlib.Core.Path.{◌≡◌, refl, sym, ap, ◌∙◌}
use mathlib.Core.Bool.{Bool, true, false, cond, ◌&&◌, ◌||◌, true≢false}
use mathlib.Core.Logic.{◌⊎◌, inl, inr, ⊎_elim}
use Prim.Native.Nat.{ℕ, zero, suc, ◌+◌, ◌-◌, ◌^◌, ◌≤◌, ◌<◌, min}
use native.Mathlib.Omega.{arith}
use borrow.Author.Tests.{le-leb, lt-leb, lt-ltb, le-ltb, leb-true, leb-false}
use lib.Dec.{leb, ltb, lit<}
use lib.IntN.{ℤ, pos, ◌-ℤ◌}
use mir.Syntax.{w64}
use mir.Val.{SFits}
use Rattle.definition.specs.Limits.{literal_limit, min_exponent, max_exponent}
use Rattle.definition.specs.Tables.{is_finite}
use Rattle.definition.specs.Literals.{integer, float, beyond, exponent_right, is_inside, float_by, float_numeral, whole_numeral, nearest}
use Rattle.number_integers.specs.Signed.{signed}
use Rattle.number_digits.specs.Runs.{limit}
use Rattle.number_literals.specs.Values.{numeral_by}
use Rattle.number_literals.proofs.Exponents.{down_less, up_less}

-- ---- floats

-- An N that is not below the limit is beyond.
pub wide_beyond : (s : Bool) (n : ℕ) (e : ℤ) → literal_limit ≤ n → float_numeral s n e ≡ beyond
unfolding float_numeral float_by is_inside
wide_beyond s n e h = rw (le-ltb n literal_limit h) refl

-- An E outside its range is beyond.
pub far_beyond : (s : Bool) (n : ℕ) (e : ℤ) → exponent_right e ≡ false → float_numeral s n e ≡ beyond
unfolding float_numeral float_by is_inside
far_beyond s n e h = go (ltb n literal_limit) (exponent_right e) h
  where
    go : (t u : Bool) → u ≡ false → float_by (t && u && is_finite (nearest s n e)) s n e ≡ beyond
    go true true h = absurd (true≢false h)
    go true false h = refl
    go false u h = refl

-- What rounds past the largest float is beyond.
pub past_beyond : (s : Bool) (n : ℕ) (e : ℤ) → is_finite (nearest s n e) ≡ false → float_numeral s n e ≡ beyond
unfolding float_numeral float_by is_inside
past_beyond s n e h = go (ltb n literal_limit && exponent_right e) (is_finite (nearest s n e)) h
  where
    go : (t u : Bool) → u ≡ false → float_by (t && u) s n e ≡ beyond
    go true true h = absurd (true≢false h)
    go true false h = refl
    go false u h = refl

-- Everything else is the nearest float.
pub in_float : (s : Bool) (n : ℕ) (e : ℤ) → n < literal_limit → exponent_right e ≡ true → is_finite (nearest s n e) ≡ true → float_numeral s n e ≡ float (nearest s n e)
unfolding float_numeral float_by is_inside
in_float s n e h k f = go (ltb n literal_limit) (exponent_right e) (is_finite (nearest s n e)) (lt-ltb n literal_limit h) k f
  where
    go : (t u v : Bool) → t ≡ true → u ≡ true → v ≡ true → float_by (t && u && v) s n e ≡ float (nearest s n e)
    go true true true h k f = refl
    go true true false h k f = absurd (true≢false (sym f))
    go true false v h k f = absurd (true≢false (sym k))
    go false u v h k f = absurd (true≢false (sym h))

-- ---- exponents

-- a minus and a magnitude up to 342, or none and one up to 308
pub low_exponent : (k : ℕ) → exponent_right (signed true k) ≡ leb k min_exponent
low_exponent zero = refl
low_exponent (suc k) = refl

low_wrong : (k : ℕ) → min_exponent < k → exponent_right (signed true k) ≡ false
low_wrong k h = low_exponent k ∙ lt-leb k min_exponent h

high_wrong : (k : ℕ) → max_exponent < k → exponent_right (signed false k) ≡ false
high_wrong k h = lt-leb k max_exponent h

-- An exponent with a minus is beyond where it or the count of fraction digits is too large.
pub low_beyond : (s : Bool) (n p x : ℕ) (low : Bool) → low ≡ true → min_exponent < x + p → float_numeral s n (signed low x -ℤ pos p) ≡ beyond
low_beyond s n p x true e h = far_beyond s n (signed true x -ℤ pos p) (ap exponent_right (down_less x p) ∙ low_wrong (x + p) h)
low_beyond s n p x false e h = absurd (true≢false (sym e))

-- ---- whole numbers

pub whole_minus : (n : ℕ) → n ≤ 2 ^ 63 → whole_numeral true n ≡ integer (signed true n)
unfolding whole_numeral
whole_minus n h = rw (le-leb n (2 ^ 63) h) refl

pub whole_plus : (n : ℕ) → n < 2 ^ 63 → whole_numeral false n ≡ integer (signed false n)
unfolding whole_numeral
whole_plus n h = rw (lt-ltb n (2 ^ 63) h) refl

-- These fit an i64.
pub minus_fits : (n : ℕ) → n ≤ 2 ^ 63 → SFits w64 (signed true n)
minus_fits zero h = record { sfits = lit< tt }
minus_fits (suc k) h = record { sfits = h }

pub plus_fits : (n : ℕ) → n < 2 ^ 63 → SFits w64 (signed false n)
plus_fits n h = record { sfits = h }

-- A whole number past an i64 is a float.
pub whole_least : (n : ℕ) → 2 ^ 63 ≤ n → whole_numeral false n ≡ float_numeral false n (pos 0)
unfolding whole_numeral
whole_least n h = rw (le-ltb n (2 ^ 63) h) refl

pub whole_past : (s : Bool) (n : ℕ) → 2 ^ 63 < n → whole_numeral s n ≡ float_numeral s n (pos 0)
unfolding whole_numeral
whole_past false n h = whole_least n (omega arith)
whole_past true n h = rw (lt-leb n (2 ^ 63) h) refl

-- ---- numbers that are kept at the limit

-- A number is kept as it is, or it and what is kept are past the limit.
kept : (n : ℕ) → (min limit n ≡ n) ⊎ ((limit ≤ min limit n) × (limit ≤ n))
kept n = go (leb n limit) refl
  where
    go : (t : Bool) → leb n limit ≡ t → (min limit n ≡ n) ⊎ ((limit ≤ min limit n) × (limit ≤ n))
    go true e = let h = leb-true n limit e in inl (omega arith)
    go false e = let h = leb-false n limit e in inr (omega arith)

pub whole_kept : (s : Bool) (n : ℕ) → whole_numeral s (min limit n) ≡ whole_numeral s n
whole_kept s n =
    ⊎_elim (λ (e : min limit n ≡ n). ap (whole_numeral s) e)
    (λ (h : (limit ≤ min limit n) × (limit ≤ n)). past (min limit n) h.0 ∙ sym (past n h.1))
    (kept n)
  where
    past : (m : ℕ) → limit ≤ m → whole_numeral s m ≡ beyond
    past m h = whole_past s m (omega arith) ∙ wide_beyond s m (pos 0) h

pub digits_kept : (s : Bool) (n : ℕ) (e : ℤ) → float_numeral s (min limit n) e ≡ float_numeral s n e
digits_kept s n e =
    ⊎_elim (λ (h : min limit n ≡ n). ap (λ (z : ℕ). float_numeral s z e) h)
    (λ (h : (limit ≤ min limit n) × (limit ≤ n)). wide_beyond s (min limit n) e h.0 ∙ sym (wide_beyond s n e h.1))
    (kept n)

-- An exponent past the limit is far beyond every power, whatever the count of fraction digits.
far : (low : Bool) (x p : ℕ) → limit ≤ x → p < 2 ^ 63 → exponent_right (signed low x -ℤ pos p) ≡ false
far true x p h l = ap exponent_right (down_less x p) ∙ low_wrong (x + p) (omega arith)
far false x p h l = ap exponent_right (up_less x p (omega arith)) ∙ high_wrong (x - p) (omega arith)

pub exponent_kept : (s : Bool) (n p : ℕ) (low : Bool) (x : ℕ) → p < 2 ^ 63 → float_numeral s n (signed low (min limit x) -ℤ pos p) ≡ float_numeral s n (signed low x -ℤ pos p)
exponent_kept s n p low x l =
    ⊎_elim (λ (e : min limit x ≡ x). ap (λ (z : ℕ). float_numeral s n (signed low z -ℤ pos p)) e)
    (λ (h : (limit ≤ min limit x) × (limit ≤ x)).
    far_beyond s n (signed low (min limit x) -ℤ pos p) (far low (min limit x) p h.0 l) ∙ sym (far_beyond s n (signed low x -ℤ pos p) (far low x p h.1 l)))
    (kept x)

-- So what the parts stand for does not change where they are kept at the limit.
pub numeral_kept : (s : Bool) (n p : ℕ) (given low : Bool) (x : ℕ) → p < 2 ^ 63 → numeral_by s (min limit n) p given (signed low (min limit x)) ≡ numeral_by s n p given (signed low x)
numeral_kept s n p given low x l = go (given || ltb 0 p)
  where
    go : (t : Bool) → cond t (float_numeral s (min limit n) (signed low (min limit x) -ℤ pos p)) (whole_numeral s (min limit n)) ≡ cond t (float_numeral s n (signed low x -ℤ pos p)) (whole_numeral s n)
    go true = digits_kept s n (signed low (min limit x) -ℤ pos p) ∙ exponent_kept s n p low x l
    go false = whole_kept s n
