-- Signed numbers of 64 bits, as the machine holds them. Assumes nothing.
use Prim.Native.Nat.{suc, ◌≤◌, ◌^◌}
use mathlib.Core.Path.{◌≡◌, ap, ◌∙◌}
use mathlib.Core.Bool.{true}
use lib.IntN.{ℤ}
use lib.Signed.{mag}
use mir.Syntax.{w64}
use mir.Val.{to_z, of_z}
use Rattle.definition.specs.Literals.{in_range}
use Rattle.number_integers.specs.Signs.{back}

-- it is in the range that a query's numbers have, where what it was read from is
pub ranged : (z y : ℤ) → suc (mag z) ≤ 2 ^ 63 → z ≡ y → in_range y ≡ true → in_range (to_z w64 (of_z w64 z)) ≡ true
ranged z y h e r = ap in_range (back z h ∙ e) ∙ r
