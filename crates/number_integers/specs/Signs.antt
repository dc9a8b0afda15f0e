-- Two's complement, back and forth. Assumes nothing.
use Rattle.std.specs.Prelude.{suc, ◌≤◌, ◌^◌, ◌≡◌, ℤ}
use Rattle.std.specs.Int.Signed.{mag}
use Rattle.std.specs.Int.{w64}
use Rattle.std.proofs.Common.{to_z, of_z}
use Rattle.std.proofs.lemmas.Int.{to_z-of_z}

-- a number that fits comes back as it was
pub back : (z : ℤ) → suc (mag z) ≤ 2 ^ 63 → to_z w64 (of_z w64 z) ≡ z
back z h = to_z-of_z w64 z (record { sfits = h })
