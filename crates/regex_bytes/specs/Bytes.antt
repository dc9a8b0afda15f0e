-- What the reader of bytes answers.
use Rattle.std.specs.Prelude.{Option as Answer, Some, None}
use Rattle.std.specs.Prelude.{◌≡◌, List, [], ◌++◌, ℕ, ◌+◌, ◌*◌, ◌≤◌, length, drop, get_or}
use Rattle.std.proofs.Math.Option.{none, some}
use Rattle.basics.specs.Reads.{Wrote}
use Rattle.regex_definition.specs.Regexp.{Regexp}
use Rattle.definition.specs.Regexps.{regexp_of}
use Rattle.regex_code.specs.Flat.{flat}
use Rattle.regex_bytes.specs.Points.{points_of}

-- the byte at a place, 0 behind the end
abbrev pub byte_at : List ℕ → ℕ → ℕ
byte_at s at = get_or s at 0

-- one character more, or none, where one byte is passed
pub record OneMore (s p q : List ℕ) (i n r : ℕ) : Type 0 where
  pub more : List ℕ
  pub is : points_of (drop i s) ≡ more ++ points_of (drop (i + 1) s)
  pub count : r ≡ n + length more
  pub few : length more ≤ 1
  pub buf : Wrote p n more q

-- the characters of s stand at the beginning
pub record Scalars (s p q : List ℕ) (r : ℕ) : Type 0 where
  pub count : r ≡ length (points_of s)
  pub few : r ≤ length s
  pub buf : Wrote p 0 (points_of s) q

-- the code of the expression is written from len on, up to n, and takes up to eight words for each byte; or the bytes are outside the part
pub record IsCode (s p q : List ℕ) (len n : ℕ) : Type 0 where
  pub expr : Regexp
  pub is : regexp_of s ≡ some expr
  pub grown : n ≡ len + length (flat expr [])
  pub few : n ≤ len + 8 * length s + 3
  pub buf : Wrote p len (flat expr []) q

pub data ReadsBytes (s p q : List ℕ) (len : ℕ) : Answer ℕ → Type 0 where
  code : (n : ℕ) → IsCode s p q len n → ReadsBytes s p q len (Some n)
  outside : regexp_of s ≡ none → ReadsBytes s p q len None
