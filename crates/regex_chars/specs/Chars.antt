-- What `char_at` answers of the bytes from `at` up to `to`. Assumes nothing: this is a definition.
use Rattle.std.specs.Prelude.{ℕ, ◌≤◌, ◌<◌, ◌≡◌, List, ◌++◌}
use Rattle.std.proofs.Math.Seq.{slice}
use Rattle.definition.specs.Utf8.{encode}

-- where the bytes begin with a character, c is its code point and its bytes end at next
pub record Stands (t : List ℕ) (at to next c : ℕ) : Type 0 where
  pub after : at < next
  pub within : next ≤ to
  pub of : (d : ℕ) (r : List ℕ) → slice at to t ≡ encode d ++ r → (c ≡ d) × (slice next to t ≡ r)
