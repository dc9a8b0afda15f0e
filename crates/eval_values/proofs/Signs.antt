-- Signed numbers of 64 bits, as the machine holds them. Assumes nothing.
use Prim.Native.Nat.{suc, ◌≤◌, ◌^◌}
use mathlib.Core.Path.{◌≡◌, refl, sym, ap, ◌∙◌}
use mathlib.Core.Bool.{not}
use native.Mathlib.Omega.{arith}
use borrow.Author.Tests.{ne_eqb}
use lib.Dec.{eqb, eqb-suc-zero}
use lib.IntN.{ℤ, pos, negsuc, nat_abs}
use lib.Signed.{mag}
use mir.Syntax.{w64}
use mir.Val.{of_z}

-- its bits are 0 where it is 0
pub zero_bits : (z : ℤ) → suc (mag z) ≤ 2 ^ 63 → not (eqb (of_z w64 z) 0) ≡ not (eqb (nat_abs z) 0)
zero_bits (pos n) h = refl
zero_bits (negsuc n) h = ap not (ne_eqb (of_z w64 (negsuc n)) 0 (omega arith) ∙ sym (eqb-suc-zero n))
