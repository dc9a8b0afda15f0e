-- The bits of a number with its sign. Assumes nothing.
use mathlib.Core.Path.{◌≡◌, refl, sym, ap, ◌∙◌}
use mathlib.Core.Bool.{Bool, true, false, true≢false}
use Prim.Native.Nat.{ℕ, zero, suc, ◌-◌, ◌^◌, ◌≤◌, ◌<◌}
use native.Mathlib.Omega.{arith}
use lib.IntN.{pos}
use mir.Syntax.{w64}
use mir.Val.{SFits, to_z}
use mir.ValLaws.{to_z_pos, to_z-neg}
use Rattle.number_integers.specs.Signed.{signed}

-- One less than the magnitude of a negative i64 is an i64.
pub less_fits : (t : Bool) (n : ℕ) → SFits w64 (signed t n) → t ≡ true → 0 < n → SFits w64 (pos (n - 1))
less_fits false n f e h = absurd (true≢false (sym e))
less_fits true zero f e h = absurd (omega arith)
less_fits true (suc k) f e h = record { sfits = omega (arith, f.sfits) }

-- Its complement is the negative number.
pub complement_is : (t : Bool) (n : ℕ) → SFits w64 (signed t n) → t ≡ true → 0 < n → to_z w64 (2 ^ 64 - 1 - (n - 1)) ≡ signed t n
complement_is false n f e h = absurd (true≢false (sym e))
complement_is true zero f e h = absurd (omega arith)
complement_is true (suc k) f e h =
    let b : 2 ^ 64 - 1 - (suc k - 1) ≡ 2 ^ 64 - suc k = omega arith in
    ap (to_z w64) b ∙ to_z-neg w64 k f.sfits

-- A 0 has no sign.
pub zero_is : (t : Bool) (n : ℕ) → n ≤ 0 → pos 0 ≡ signed t n
zero_is false zero h = refl
zero_is true zero h = refl
zero_is t (suc k) h = absurd (omega arith)

-- A number without a sign is its bits.
pub plus_fits : (t : Bool) (n : ℕ) → SFits w64 (signed t n) → t ≡ false → SFits w64 (pos n)
plus_fits false n f e = f
plus_fits true n f e = absurd (true≢false e)

pub plus_is : (t : Bool) (n : ℕ) → SFits w64 (signed t n) → t ≡ false → to_z w64 n ≡ signed t n
plus_is false n f e = to_z_pos w64 n f.sfits
plus_is true n f e = absurd (true≢false e)
