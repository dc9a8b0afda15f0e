-- `text::bytes::bits64` meets its contract. Of a negative number the complement of its bits is cast, and complemented again.
use native.Mathlib.Omega.{arith}
use Prim.Native.Nat.{ℕ, ◌-◌, ◌^◌}
use mathlib.Core.Path.{◌≡◌, ap, ◌∙◌}
use mathlib.Core.Bool.{true, false}
use lib.IntN.{pos, nat_abs}
use lib.Signed.{lt_z}
use mir.Facts.{to_z-of_z}
use Rattle.text.proofs.Numbers.{complement, complement_back, plain_bits, bits_fit}
use Rattle.text.proofs.bytes.bits64.Goals as goal

pub overflow_cast-result : goal.overflow_cast-result
overflow_cast-result c =
    let t : lt_z c.args.z (pos 0) ≡ true = rw (to_z-of_z c.ranges.z) at c.if-z-lt0.true in
    rw (complement c.args.z c.ranges.z t) (tt, omega arith)

pub overflow_cast-result-else-z-lt0 : goal.overflow_cast-result-else-z-lt0
overflow_cast-result-else-z-lt0 c =
    let t : lt_z c.args.z (pos 0) ≡ false = rw (to_z-of_z c.ranges.z) at c.if-z-lt0.false in
    rw (to_z-of_z c.ranges.z, plain_bits c.args.z t) (tt, record { fits = bits_fit c.args.z c.ranges.z })

pub returns-then-z-lt0 : goal.returns-then-z-lt0
returns-then-z-lt0 c =
    let t : lt_z c.args.z (pos 0) ≡ true = rw (to_z-of_z c.ranges.z) at c.if-z-lt0.true in
    ap (λ (k : ℕ). 2 ^ 64 - 1 - k) (ap nat_abs (complement c.args.z c.ranges.z t)) ∙ complement_back c.args.z c.ranges.z t

pub returns-else-z-lt0 : goal.returns-else-z-lt0
returns-else-z-lt0 c =
    let t : lt_z c.args.z (pos 0) ≡ false = rw (to_z-of_z c.ranges.z) at c.if-z-lt0.false in
    ap nat_abs (to_z-of_z c.ranges.z ∙ plain_bits c.args.z t)
