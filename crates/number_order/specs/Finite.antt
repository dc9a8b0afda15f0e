-- Bits whose exponent's field is not all ones are a finite float's. Assumes nothing.
use Rattle.std.specs.Prelude.{Bool, ℕ, zero, suc, ◌+◌, ◌*◌, ◌/◌, ◌%◌, ◌^◌, ◌<◌, T, leb}
use Rattle.std.proofs.Common.{arith, ne_eqb}
use Rattle.std.specs.Float.{binary64}
use Rattle.std.specs.Float.Ieee.{odd, of_fields, of_bits}
use Rattle.std.specs.Float.Ieee.Scale.{finite}

odd_finite : (d : ℕ) (s : Bool) (q k l : ℕ) → T (finite (odd d s q k l))
unfolding odd
odd_finite d s zero k l = tt
odd_finite d s (suc q) k l = tt

fields_finite : (s : Bool) (x t : ℕ) → x < 2047 → T (finite (of_fields binary64 s x t))
unfolding of_fields
fields_finite s zero t h = odd_finite 53 s t 0 1074
fields_finite s (suc x) t h = rw (ne_eqb (suc x) 2047 (omega arith)) (odd_finite 53 s (2 ^ 52 + t) x 1074)

pub bits_finite : (b : ℕ) → b % 2 ^ 63 < 2047 * 2 ^ 52 → T (finite (of_bits binary64 b))
unfolding of_bits
bits_finite b h = fields_finite (leb (2 ^ 63) b) (b % 2 ^ 63 / 2 ^ 52) (b % 2 ^ 52) (omega arith)
