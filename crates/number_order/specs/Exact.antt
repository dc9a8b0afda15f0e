-- The exact order of numbers. Document 01, Evaluation: "Numbers compare by exact mathematical value, integer against float too",
-- and "Statements over floats and fractions multiply out to whole numbers."
-- So a number is a fraction of whole numbers, and two numbers compare as their cross products.
use Rattle.std.specs.Prelude.{cond, ltb, ℤ, Float}
use Rattle.std.specs.declared.cmp.Ordering.{Ordering}
use Rattle.std.specs.declared.cmp.Ordering.TheVariants.{Less, Equal, Greater}
use Prim.Native.Nat.{ℕ, ◌+◌, ◌-◌, ◌/◌, ◌%◌, ◌^◌, Ordering as Compared}
pub use Rattle.definition.specs.Compare.{Fraction, order_z}
use Rattle.definition.specs.Compare.{whole_fraction, float_fraction, order_fractions}

-- ---- the order of numbers

-- an integer and a finite float as fractions, and the order of two: the definition's own
abbrev pub of_integer : ℤ → Fraction
of_integer z = whole_fraction z

abbrev pub of_float : Float → Fraction
of_float x = float_fraction x

abbrev pub order_of : Fraction → Fraction → Compared
order_of x y = order_fractions x y

-- ---- the answer

-- the case of std's enum that says an order
abbrev pub answer : Compared → Ordering
answer Compared.lt = Less
answer Compared.eq = Equal
answer Compared.gt = Greater

-- ---- the bit pattern of a float

-- The fields of the bit pattern b of a float with no sign. The float is `significand b` times 2 ^ `shift b` units of 2 ^ -1074:
-- where the exponent's field is 0 the significand is its digits alone and the shift is 0, above that there is a leading digit and the shift is the field less 1.
abbrev pub significand : ℕ → ℕ
significand b = cond (ltb 0 (b / 2 ^ 52)) (2 ^ 52 + b % 2 ^ 52) (b % 2 ^ 52)

abbrev pub shift : ℕ → ℕ
shift b = b / 2 ^ 52 - 1
