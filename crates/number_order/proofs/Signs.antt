-- The sign and the magnitude of an i64, as its bits have them. Assumes nothing.
use mathlib.Core.Path.{◌≡◌, refl, sym, ap, ◌∙◌}
use mathlib.Core.Bool.{Bool, true, false, true≢false}
use Prim.Native.Nat.{ℕ, suc, ◌+◌, ◌-◌, ◌^◌, ◌<◌}
use native.Mathlib.Nat.{lt_of_lt_of_le, mul-one}
use native.Mathlib.Omega.{arith}
use lib.Dec.{T, lit≤, leb-suc-zero}
use lib.IntN.{ℤ, pos, negsuc, neg_ℤ, nat_abs, ◌*ℤ◌}
use lib.Signed.{lt_z, non_neg}
use mir.Syntax.{w64}
use mir.Val.{Fits, SFits, of_z, to_z}
use mir.ValLaws.{to_z-of_z, to_z_pos}
use Rattle.number_integers.specs.Signed.{signed}
use Rattle.number_order.specs.Exact.{order_z, of_integer, order_of}

-- A number below 0 is a minus and its magnitude, which is above 0.
pub minus : (i : ℤ) → lt_z i (pos 0) ≡ true → (i ≡ signed true (nat_abs i)) × (0 < nat_abs i)
minus (pos n) t = absurd (true≢false (sym t ∙ leb-suc-zero n))
minus (negsuc k) t = (refl, omega arith)

-- Any other number is its magnitude.
pub plus : (i : ℤ) → lt_z i (pos 0) ≡ false → i ≡ signed false (nat_abs i)
plus (pos n) t = refl
plus (negsuc k) t = absurd (true≢false t)

-- What a test of an i64 says of the number.
pub tested : (i j : ℤ) (t : Bool) → SFits w64 i → SFits w64 j → lt_z (to_z w64 (of_z w64 i)) (to_z w64 (of_z w64 j)) ≡ t → lt_z i j ≡ t
tested i j t f g e = ap (λ (z : ℤ). lt_z z j) (sym (to_z-of_z w64 i f)) ∙ ap (λ (z : ℤ). lt_z (to_z w64 (of_z w64 i)) z) (sym (to_z-of_z w64 j g)) ∙ e

pub zero_fits : SFits w64 (pos 0)
zero_fits = record { sfits = lib.Dec.lit< tt }

-- The complement of a negative number's bits is its magnitude less 1.
back_bits : (k : ℕ) → k < 2 ^ 63 → 2 ^ 64 - 1 - (2 ^ 64 - suc k) ≡ k
back_bits k h = omega arith

pub complement : (i : ℤ) → SFits w64 i → lt_z i (pos 0) ≡ true → (to_z w64 (2 ^ 64 - 1 - of_z w64 i) ≡ pos (nat_abs i - 1)) × (nat_abs i < 2 ^ 63 + 1) × (0 < nat_abs i)
complement (pos n) f t = absurd (true≢false (sym t ∙ leb-suc-zero n))
complement (negsuc k) f t = (ap (to_z w64) (back_bits k f.sfits) ∙ to_z_pos w64 k f.sfits ∙ ap pos (omega arith), omega (arith, f.sfits), omega arith)

-- A number that is not below 0 may be cast to u64.
pub castable : (i : ℤ) → SFits w64 i → lt_z i (pos 0) ≡ false → T (non_neg i) × Fits w64 (nat_abs i)
castable (pos n) f t = (tt, record { fits = lt_of_lt_of_le f.sfits (lit≤ tt) })
castable (negsuc k) f t = absurd (true≢false t)

-- A denominator of 1 changes nothing.
pub times_one : (i : ℤ) → i *ℤ pos 1 ≡ i
times_one (pos n) = ap pos (mul-one n)
times_one (negsuc k) = ap (λ (z : ℕ). neg_ℤ (pos z)) (mul-one (suc k))

pub whole_order : (i j : ℤ) → order_of (of_integer i) (of_integer j) ≡ order_z i j
whole_order i j = ap (λ (z : ℤ). order_z z (j *ℤ pos 1)) (times_one i) ∙ ap (λ (z : ℤ). order_z i z) (times_one j)
