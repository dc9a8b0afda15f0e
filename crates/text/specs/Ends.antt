-- A text of four to eight bytes by the numbers of its first four and its last four bytes. Assumes nothing: these are definitions.
use Rattle.std.specs.Prelude.{ℕ, ◌-◌, ◌≤◌, ◌<◌, ◌≡◌, List, length, get_or}
use Rattle.text.specs.Words.{Word}

-- t is a text of n bytes, four to eight, and low and high are these numbers
pub record EndsOf (n : ℕ) (t : List ℕ) (low high : ℕ) : Type 0 where
  pub long : length t ≡ n
  pub least : 4 ≤ n
  pub most : n ≤ 8
  pub bytes : (k : ℕ) → get_or t k 0 < 256
  pub first : Word 4 t 0 low
  pub last : Word 4 t (n - 4) high
