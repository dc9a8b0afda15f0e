-- What the parts of a number literal stand for together, in the definition's words.
use Rattle.std.specs.Prelude.{Bool, cond, ◌||◌, ℕ, ltb, ℤ, pos, ◌-ℤ◌}
use Rattle.definition.specs.Literals.{Numeral, integer, float, beyond, whole_numeral, float_numeral}
use Rattle.number_literals.specs.declared.Literal.{Literal}
use Rattle.number_literals.specs.declared.Literal.TheVariants.{Int, Float, Beyond}

-- what a case of the answer stands for
abbrev pub meaning : Literal → Numeral
meaning (Int z) = integer z
meaning (Float b) = float b
meaning Beyond = beyond

-- The sign s, the number n of all digits before the exponent, the count p of fraction digits, whether an exponent is written, and the exponent e:
-- without a fraction and an exponent a whole number, and otherwise n times ten to e less p.
abbrev pub numeral_by : Bool → ℕ → ℕ → Bool → ℤ → Numeral
numeral_by s n p given e = cond (given || ltb 0 p) (float_numeral s n (e -ℤ pos p)) (whole_numeral s n)
