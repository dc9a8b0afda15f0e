-- Laws of numbers as bytes: how many bytes there are, what they stand for, and which whole numbers eight of them hold. Assumes nothing.
use Rattle.std.specs.Prelude.{ℕ, zero, suc, ◌/◌, ◌<◌, ◌^◌, ◌≡◌, refl, true, ℤ, pos, negsuc, length}
use Rattle.std.proofs.Math.Nat.{pow-succ'}
use Rattle.std.proofs.Common.{arith, ap, ltb-true, lt-ltb, leb-true}
use Rattle.std.proofs.Math.Option.{Option, none, some}
use Rattle.definition.specs.Bytes.{number, little_endian, unsigned64}
use Rattle.definition.specs.Limits.{max_int}
use Rattle.definition.specs.Literals.{in_range}
use Rattle.definition.specs.QueryForms.{inside_i64}
use Rattle.definition.specs.Plans.{eight_of}

-- a number of w bytes has w bytes
pub little_endian_length : (w n : ℕ) → length (little_endian w n) ≡ w
unfolding little_endian
little_endian_length zero n = refl
little_endian_length (suc w) n = ap suc (little_endian_length w (n / 256))

-- the bytes of a number that fits them stand for it
pub number_little : (w n : ℕ) → n < 256 ^ w → number (little_endian w n) ≡ n
unfolding number little_endian
number_little zero n h = omega arith
number_little (suc w) n h =
    let e = pow-succ' 256 w in
    let l : n / 256 < 256 ^ w = omega arith in
    let ih = number_little w (n / 256) l in
    omega arith

-- an index or a bound in refusal 4's range is inside i64
pub range_inside : (z : ℤ) → in_range z ≡ true → inside_i64 z ≡ true
unfolding inside_i64
range_inside (pos n) h = let l = leb-true n max_int h in lt-ltb n (2 ^ 63) (omega arith)
range_inside (negsuc n) h = let l = leb-true (suc n) max_int h in lt-ltb n (2 ^ 63) (omega arith)

-- an integer inside i64 fits 8 bytes
pub unsigned_fits : (z : ℤ) → inside_i64 z ≡ true → unsigned64 z < 256 ^ 8
unfolding inside_i64
unsigned_fits (pos n) h = let l = ltb-true n (2 ^ 63) h in omega arith
unsigned_fits (negsuc n) h = omega arith

-- a bound takes eight bytes, given or not
pub bound_length : (a : Option ℤ) → length (eight_of a) ≡ 8
unfolding eight_of
bound_length none = little_endian_length 8 0
bound_length (some z) = little_endian_length 8 (unsigned64 z)
