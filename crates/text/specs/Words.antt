-- What a read of a number says.
use Rattle.std.specs.Prelude.{ℕ, ◌<◌, ◌^◌, ◌≡◌, List}
use Rattle.definition.specs.Bytes.{part, number}

-- r is the number that the w bytes of s from a place on stand for, and fits w bytes
pub record Word (w : ℕ) (s : List ℕ) (at r : ℕ) : Type 0 where
  pub is : r ≡ number (part s at w)
  pub fits : r < 256 ^ w
