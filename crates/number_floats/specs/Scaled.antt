-- What the float of a literal is: the definition's bits, which stand for the float nearest to N times ten to E.
use Rattle.std.specs.Prelude.{◌≡◌, Bool, true, ℕ, ℤ}
use Rattle.std.specs.Float.{binary64}
use Rattle.std.specs.Float.Ieee.{of_bits}
use Rattle.definition.specs.Tables.{is_finite}
use Rattle.definition.specs.Literals.{nearest}
use Rattle.number_rounding.specs.Near.{Rounded}
use Rattle.number_rounding.specs.Decimal.{above, below}

-- Ten to this power, and to every smaller one, is a float: 5 ^ 22 is below 2 ^ 53, and 5 ^ 23 is not.
abbrev pub one_power : ℕ
one_power = 22

-- r is the bits of the float of N, E and the sign s; where they are a finite float's, it is the nearest one over whole numbers
pub record Scaled (s : Bool) (n : ℕ) (e : ℤ) (r : ℕ) : Type 0 where
  pub is : r ≡ nearest s n e
  pub near : is_finite r ≡ true → Rounded (of_bits binary64 r) s (above n e) (below e)
