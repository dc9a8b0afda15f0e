-- A number in range as the machine holds it, and the bits of a slice's flags. Assumes nothing.
use mathlib.Core.Path.{◌≡◌}
use mathlib.Core.Bool.{Bool, true, false}
use Prim.Native.Nat.{ℕ, suc, ◌≤◌}
use native.Mathlib.Omega.{arith}
use borrow.Author.Tests.{leb-true}
use lib.IntN.{ℤ, pos, negsuc}
use mir.Syntax.{w64}
use mir.Val.{to_z, of_z}
use mir.ValLaws.{to_z-of_z}
use Rattle.definition.specs.Limits.{max_int}
use Rattle.definition.specs.Literals.{in_range}
use Rattle.parser_items.specs.Ranges.{bit_of}

-- a number in range is what its bits say
pub range_bits : (v : ℤ) → in_range v ≡ true → to_z w64 (of_z w64 v) ≡ v
range_bits (pos k) e = to_z-of_z w64 (pos k) (record { sfits = omega (arith, leb-true k max_int e) })
range_bits (negsuc k) e = to_z-of_z w64 (negsuc k) (record { sfits = omega (arith, leb-true (suc k) max_int e) })

-- a bit is no more than its weight
pub bit_small : (b : Bool) (n : ℕ) → bit_of b n ≤ n
bit_small true n = omega arith
bit_small false n = omega arith
