-- What a word says of bytes that continue a character. Assumes nothing: these are definitions.
use Rattle.std.specs.Prelude.{ℕ, ◌*◌, ◌%◌, ◌≤◌, ◌≡◌, List}
use Rattle.utf8_laws.specs.Scalars.{continuing}

-- r is a sum of such words of a text: its eight bytes add up to how many bytes of the text continue a character, and none is more than k
pub record Continuing (t : List ℕ) (k r : ℕ) : Type 0 where
  pub sum : r % 255 ≡ continuing t % 255
  pub low : r ≤ k * 0x0101010101010101
