-- Signed numbers of 64 bits: which sums fit, and what a test for below 0 tells. Assumes nothing.
use Prim.Native.Nat.{ℕ, zero, suc, ◌+◌, ◌≤◌, ◌<◌, ◌^◌}
use mathlib.Core.Path.{◌≡◌, subst}
use mathlib.Core.Bool.{true, false}
use native.Mathlib.Omega.{arith}
use borrow.Author.Tests.{ltb-true, leb-true}
use lib.Dec.{T}
use lib.IntN.{ℤ, pos, negsuc, sub_ℕ, neg_ℤ, nat_abs, ◌+ℤ◌, ◌-ℤ◌, +ℤ_idl}
use lib.Signed.{mag, lt_z, non_neg}
use Rattle.slices.specs.Walking.{Difference, difference}
use Rattle.slices.specs.Walking.Difference.{under, over}
use mir.Syntax.{w64}
use mir.Val.{SFits, Fits, to_z, of_z}
use mir.ValLaws.{to_z-of_z}
use Rattle.definition.specs.Limits.{max_int}
use Rattle.definition.specs.Literals.{in_range}

mag_difference : (a b : ℕ) (z : ℤ) → Difference a b z → mag z ≤ a + b
mag_difference a b z (under h) = omega arith
mag_difference a b z (over h) = omega arith

-- a sum's size
pub mag_sum : (a b : ℤ) → mag (a +ℤ b) ≤ suc (mag a + mag b)
mag_sum (pos a) (pos b) = omega arith
mag_sum (pos a) (negsuc b) = omega (arith, mag_difference a (suc b) (sub_ℕ a (suc b)) (difference a (suc b)))
mag_sum (negsuc a) (pos b) = omega (arith, mag_difference b (suc a) (sub_ℕ b (suc a)) (difference b (suc a)))
mag_sum (negsuc a) (negsuc b) = omega arith

-- the size of what is negated
pub mag_negated : (n : ℕ) → mag (neg_ℤ (pos n)) ≤ n
mag_negated zero = omega arith
mag_negated (suc n) = omega arith

-- a sum of numbers that are small enough fits
pub sum_fits : (a b : ℤ) → suc (mag a + mag b) < 2 ^ 63 → SFits w64 (a +ℤ b)
sum_fits a b h = record { sfits = omega (arith, mag_sum a b) }

-- what is in range is small
pub range_mag : (z : ℤ) → in_range z ≡ true → mag z ≤ max_int
range_mag (pos k) h = leb-true k max_int h
range_mag (negsuc k) h = omega (arith, leb-true (suc k) max_int h)

-- a test for below 0 tells the two constructors apart
pub not-below {ℓ} : {X : Type ℓ} (k : ℕ) → lt_z (pos k) (pos 0) ≡ true → X
not-below k e = absurd (omega (arith, ltb-true k 0 e))

pub not_above {ℓ} : {X : Type ℓ} → true ≡ false → X
not_above e = absurd (subst T e tt)

-- a number that is not below 0 can be cast
pub cast_fits : (z : ℤ) → SFits w64 z → lt_z z (pos 0) ≡ false → T (non_neg z) × Fits w64 (nat_abs z)
cast_fits (pos k) f e = (tt, record { fits = omega (arith, f.sfits) })
cast_fits (negsuc k) f e = not_above e

-- a number that fits is what its bits say
pub same : (z : ℤ) → mag z < 2 ^ 63 → to_z w64 (of_z w64 z) ≡ z
same z h = to_z-of_z w64 z (record { sfits = h })

-- 0 - z is -z
pub zero_minus : (z : ℤ) → pos 0 -ℤ z ≡ neg_ℤ z
zero_minus z = +ℤ_idl (neg_ℤ z)
