-- What a number says to be known of a text: 2, that it is ASCII throughout; 1, that it is UTF-8. Assumes nothing: this is a definition.
use Rattle.std.specs.Prelude.{ℕ, ◌≡◌, true, List}
use Rattle.definition.specs.Bytes.{every}
use Rattle.definition.specs.Utf8.{is_utf8}
use Rattle.text.specs.Chars.{is_ascii}

pub record Known (n : ℕ) (X : List ℕ) : Type 0 where
  pub ascii : n ≡ 2 → every is_ascii X ≡ true
  pub utf8 : n ≡ 1 → is_utf8 X ≡ true
