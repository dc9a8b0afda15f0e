-- The bits of the nearest float: c steps of 2 ^ k units that are nearest have the bits k * 2 ^ 52 + c, or those of an infinity where that is past the largest float.
-- That they are so is in proofs/Bits. Assumes nothing.
use Rattle.std.specs.Prelude.{◌≡◌, refl, ◌⊎◌, Bool, cond, ℕ, zero, suc, ◌+◌, ◌-◌, ◌*◌, ◌/◌, ◌^◌, ◌≤◌, ◌<◌, min, Float}
use Rattle.std.proofs.Common.{sym, ap, ◌∙◌, subst, ⊎_elim, le_refl, le_trans, le_of_eq, le_antisymm, lt_irrefl, lt_of_lt_of_le, lt_of_le_of_lt, lt_of_not-le, not-le_of_lt, mul-le-mul_right, mul-lt-mul_of_pos_right, le_of_mul-le-mul_right, mul-div_cancel, eq-or-lt_of_le, arith, lit<, pow-add, pow_pos, pow_mono}
use Rattle.std.specs.Float.{binary64}
use Rattle.std.specs.Float.Ieee.{size, units, round, to_bits, low}
use Rattle.std.specs.Float.Ieee.Digits.{size-lt, size-le}
use Rattle.std.specs.Float.Ieee.Exact.{HasValue, units_val}
use Rattle.std.specs.Float.Ieee.Fits.{round_is}
use Rattle.std.specs.Float.Ieee.Order.{drop, kept}
use Rattle.std.specs.Float.Ieee.Scale.{grid, overflow}
use Rattle.number_rounding.specs.Unique.{Magnitude, carry, next, exponents, bits_of, bits_are}
use Rattle.number_rounding.specs.Decided.{Best}

-- the bits of an infinity without its sign: one more than those of the largest float
abbrev pub infinity : ℕ
infinity = 2047 * 2 ^ 52

-- the bit of a sign
abbrev pub sign_bit : Bool → ℕ
sign_bit s = cond s (2 ^ 63) 0

-- ---- numbers of steps

-- Up to 2 ^ 53 steps are a magnitude.
pub capped : (c k : ℕ) → c ≤ 2 ^ 53 → Magnitude (c * 2 ^ k)
capped zero k h = record { q = 0; k = k; is = refl; fit = lit< tt }
capped (suc c) k h = next c k h

-- ---- the bits of a number of steps

-- the size of a number between two powers of two
sized : (X j : ℕ) → 2 ^ j ≤ X → X < 2 ^ suc j → size X ≡ suc j
sized X j l h = le_antisymm (size-le X (suc j) h) (lt_of_not-le (λ (g : size X ≤ j). lt_irrefl X (lt_of_lt_of_le (size-lt X) (le_trans (pow_mono g) l))))

-- where the steps are as many as `to_bits` drops
placed : (s : Bool) (c k : ℕ) → size (c * 2 ^ k) - 53 ≡ k → bits_of s (c * 2 ^ k) ≡ sign_bit s + k * 2 ^ 52 + c
unfolding bits_of
placed s c k e =
    ap (λ (z : ℕ). sign_bit s + z * 2 ^ 52 + c * 2 ^ k / 2 ^ z) e ∙ ap (λ (z : ℕ). sign_bit s + k * 2 ^ 52 + z) (mul-div_cancel c (pow_pos k))

normal_bits : (s : Bool) (c k : ℕ) → 2 ^ 52 ≤ c → c < 2 ^ 53 → bits_of s (c * 2 ^ k) ≡ sign_bit s + k * 2 ^ 52 + c
normal_bits s c k l h =
    let x : 53 + k ≡ suc (52 + k) = omega arith in
    let e : size (c * 2 ^ k) ≡ suc (52 + k) =
    sized (c * 2 ^ k) (52 + k) (le_trans (le_of_eq (pow-add 2 52 k)) (mul-le-mul_right (2 ^ k) l)) (lt_of_lt_of_le (mul-lt-mul_of_pos_right h (pow_pos k)) (le_of_eq (sym (pow-add 2 53 k) ∙ ap (λ (z : ℕ). 2 ^ z) x)))
    in
    placed s c k (omega arith)

low_bits : (s : Bool) (c k : ℕ) → k ≡ 0 → c < 2 ^ 53 → bits_of s (c * 2 ^ k) ≡ sign_bit s + k * 2 ^ 52 + c
low_bits s c k z h =
    let e : size (c * 2 ^ k) ≤ 53 + k = size-le (c * 2 ^ k) (53 + k) (lt_of_lt_of_le (mul-lt-mul_of_pos_right h (pow_pos k)) (le_of_eq (sym (pow-add 2 53 k)))) in
    placed s c k (omega arith)

top_bits : (s : Bool) (c k : ℕ) → c ≡ 2 ^ 53 → bits_of s (c * 2 ^ k) ≡ sign_bit s + k * 2 ^ 52 + c
top_bits s c k e = ap (bits_of s) (carry c k e) ∙ normal_bits s (2 ^ 52) (suc k) (le_refl (2 ^ 52)) (lit< tt) ∙ same (sign_bit s) k c e
  where
    same : (t k c : ℕ) → c ≡ 2 ^ 53 → t + suc k * 2 ^ 52 + 2 ^ 52 ≡ t + k * 2 ^ 52 + c
    same t k c e = omega arith

pub steps_bits : (s : Bool) (c k : ℕ) → c ≤ 2 ^ 53 → (k ≡ 0) ⊎ (2 ^ 52 ≤ c) → bits_of s (c * 2 ^ k) ≡ sign_bit s + k * 2 ^ 52 + c
steps_bits s c k h f =
    ⊎_elim (λ (e : c ≡ 2 ^ 53). top_bits s c k e) (λ (l : c < 2 ^ 53). ⊎_elim (λ (z : k ≡ 0). low_bits s c k z l) (λ (g : 2 ^ 52 ≤ c). normal_bits s c k g l) f) (eq-or-lt_of_le h)

-- ---- an overflow shows in the bits

-- 2 ^ x below 2 ^ y makes x smaller than y
smaller : (x y : ℕ) → 2 ^ x < 2 ^ y → x < y
smaller x y h = lt_of_not-le (λ (g : y ≤ x). not-le_of_lt h (pow_mono g))

pub under : (c k : ℕ) → c ≤ 2 ^ 53 → (k ≡ 0) ⊎ (2 ^ 52 ≤ c) → c * 2 ^ k < overflow binary64 → k * 2 ^ 52 + c < infinity
under c k h f l =
    ⊎_elim (λ (e : c ≡ 2 ^ 53). let g = smaller (53 + k) 2098 (lt_of_le_of_lt (le_of_eq (pow-add 2 53 k ∙ ap (λ (z : ℕ). z * 2 ^ k) (sym e))) l) in omega arith)
    (λ (g : c < 2 ^ 53).
    ⊎_elim (λ (z : k ≡ 0). omega arith)
    (λ (m : 2 ^ 52 ≤ c). let x = smaller (52 + k) 2098 (lt_of_le_of_lt (le_trans (le_of_eq (pow-add 2 52 k)) (mul-le-mul_right (2 ^ k) m)) l) in omega arith)
    f)
    (eq-or-lt_of_le h)

pub over : (c k : ℕ) → c ≤ 2 ^ 53 → (k ≡ 0) ⊎ (2 ^ 52 ≤ c) → overflow binary64 ≤ c * 2 ^ k → infinity ≤ k * 2 ^ 52 + c
over c k h f l =
    let x : 2098 ≤ 53 + k = exponents 2098 (53 + k) (le_trans l (le_trans (mul-le-mul_right (2 ^ k) h) (le_of_eq (sym (pow-add 2 53 k))))) in
    ⊎_elim (λ (e : 2045 ≡ k). let g : 2 ^ 53 ≤ c = le_of_mul-le-mul_right (subst (λ (z : ℕ). 2 ^ 53 * 2 ^ z ≤ c * 2 ^ k) e (le_trans (le_of_eq (sym (pow-add 2 53 2045))) l)) (pow_pos k) in omega arith)
    (λ (g : 2045 < k). ⊎_elim (λ (z : k ≡ 0). absurd (omega arith)) (λ (m : 2 ^ 52 ≤ c). omega arith) f)
    (eq-or-lt_of_le (lesser k x))
  where
    lesser : (k : ℕ) → 2098 ≤ 53 + k → 2045 ≤ k
    lesser k h = omega arith

-- ---- the bits of what `round` gives

-- an overflow is an infinity with the sign
past : (s : Bool) (q k : ℕ) → overflow binary64 ≤ q * 2 ^ k → to_bits binary64 (units binary64 s q k) ≡ sign_bit s + infinity
unfolding units to_bits
past s q k h = rw (borrow.Author.Tests.le-ltb (q * 2 ^ k) (overflow binary64) h) refl

pub round_past : (s : Bool) (a b : ℕ) → overflow binary64 ≤ grid binary64 a b → to_bits binary64 (round binary64 s a b) ≡ sign_bit s + infinity
round_past s a b h = let n = a * 2 ^ low binary64 in ap (to_bits binary64) (round_is binary64 s a b) ∙ past s (kept 53 n b) (drop 53 n b) h

pub round_within : (s : Bool) (a b : ℕ) → grid binary64 a b < overflow binary64 → to_bits binary64 (round binary64 s a b) ≡ bits_of s (grid binary64 a b)
round_within s a b h =
    let n = a * 2 ^ low binary64 in
    bits_are (round binary64 s a b) s (grid binary64 a b) (subst (λ (z : Float). HasValue z s (grid binary64 a b) (2 ^ low binary64)) (sym (round_is binary64 s a b)) (units_val binary64 s (kept 53 n b) (drop 53 n b) h))

-- r is the bits of the float nearest to a / b, an infinity's where that is past the largest float
pub record NearestBits (a b r : ℕ) : Type 0 where
  pub c : ℕ
  pub k : ℕ
  pub best : Best a b c k
  pub is : r ≡ min (k * 2 ^ 52 + c) infinity
