-- The places of the powers of ten, and the bits that are found by them as the definition's. Assumes nothing.
use mathlib.Core.Path.{◌≡◌, sym, ap, ◌∙◌, subst}
use mathlib.Core.Bool.{Bool, true, false}
use Prim.Native.Nat.{ℕ, zero, suc, ◌+◌, ◌-◌, ◌*◌, ◌^◌, ◌≤◌}
use native.Mathlib.Nat.{mul-one}
use native.Mathlib.Omega.{arith}
use borrow.Author.Tests.{leb-true, ltb-true}
use lib.IntN.{ℤ}
use lib.Ieee.{binary64, of_bits}
use Rattle.definition.specs.Limits.{min_exponent, max_exponent}
use Rattle.definition.specs.Tables.{is_finite}
use Rattle.definition.specs.Literals.{nearest, exponent_right}
use Rattle.number_integers.specs.Signed.{signed}
use Rattle.number_rounding.specs.Near.{Rounded}
use Rattle.number_rounding.specs.Bits.{NearestBits, sign_bit}
use Rattle.number_rounding.specs.Decimal.{above, below}
use Rattle.number_rounding.proofs.Decimal.{nearest_bits, nearest_rounded}
use Rattle.number_leading.specs.Leads as leads
use Rattle.number_floats.specs.Scaled.{Scaled}

-- ---- what an exponent in its range is

pub high_right : (k : ℕ) → exponent_right (signed false k) ≡ true → k ≤ max_exponent
high_right k h = leb-true k max_exponent h

pub low_right : (k : ℕ) → exponent_right (signed true k) ≡ true → k ≤ min_exponent
low_right zero h = omega arith
low_right (suc k) h = ltb-true k min_exponent h

-- ---- places

at_fraction : (a b c d r : ℕ) → a ≡ c → b ≡ d → NearestBits a b r → NearestBits c d r
at_fraction a b c d r e f n = subst (λ (z : ℕ). NearestBits z d r) e (subst (λ (z : ℕ). NearestBits a z r) f n)

-- ten to k is at 342 + k,
pub high_place : (n k r : ℕ) → NearestBits (leads.above n (342 + k)) (leads.below (342 + k)) r → NearestBits (above n (signed false k)) (below (signed false k)) r
high_place n k r = at_fraction (leads.above n (342 + k)) (leads.below (342 + k)) (n * 10 ^ k) 1 r (ap (λ (z : ℕ). n * 10 ^ z) (back k)) (ap (λ (z : ℕ). 10 ^ z) (none k))
  where
    back : (k : ℕ) → 342 + k - 342 ≡ k
    back k = omega arith

    none : (k : ℕ) → 342 - (342 + k) ≡ 0
    none k = omega arith

-- and ten to -k at 342 - k.
pub low_place : (n k r : ℕ) → k ≤ min_exponent → NearestBits (leads.above n (342 - k)) (leads.below (342 - k)) r → NearestBits (above n (signed true k)) (below (signed true k)) r
low_place n zero r h b = b
low_place n (suc k) r h b =
    at_fraction (leads.above n (342 - suc k)) (leads.below (342 - suc k)) n (10 ^ (k + 1)) r (ap (λ (z : ℕ). n * 10 ^ z) (none k) ∙ mul-one n) (ap (λ (z : ℕ). 10 ^ z) (back k h)) b
  where
    none : (k : ℕ) → 342 - suc k - 342 ≡ 0
    none k = omega arith

    back : (k : ℕ) → suc k ≤ 342 → 342 - (342 - suc k) ≡ k + 1
    back k h = omega arith

-- ---- the float of a literal

-- The definition's bits are those of the nearest float, where they are finite.
pub scaled : (s : Bool) (n : ℕ) (e : ℤ) (r : ℕ) → r ≡ nearest s n e → Scaled s n e r
scaled s n e r h = record { is = h; near = λ f. subst (λ (z : ℕ). Rounded (of_bits binary64 z) s (above n e) (below e)) (sym h) (nearest_rounded s n e (ap is_finite (sym h) ∙ f)) }

-- the bits that were found, with the sign
pub found : (s : Bool) (n : ℕ) (e : ℤ) (b r : ℕ) → NearestBits (above n e) (below e) b → r ≡ sign_bit s + b → Scaled s n e r
found s n e b r g h = scaled s n e r (h ∙ sym (nearest_bits s n e b g))
