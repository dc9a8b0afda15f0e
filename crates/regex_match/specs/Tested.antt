-- The answer: what the definition says, for each scope and expression that the code is of. The text is UTF-8.
use Rattle.std.specs.Prelude.{◌≡◌, Bool, true, List, [], ℕ, length}
use Rattle.definition.specs.Utf8.{encode_all, is_utf8, scalars_of}
use Rattle.regex_definition.specs.Regexp.{Regexp, Describes, described}
use Rattle.regex_definition.specs.Scope.{Scope, widen}
use Rattle.regex_code.specs.Flat.{flat}

pub record Tested (code text : List ℕ) (b : Bool) : Type 0 where
  pub of :
      (scope : Scope) (x : Regexp) → code ≡ flat (widen scope x) [] → is_utf8 text ≡ true
      → b ≡ described (widen scope x) (scalars_of text)

-- no text of n bytes is described
pub record Missed (code : List ℕ) (n : ℕ) : Type 0 where
  pub of : (x : Regexp) (w : List ℕ) → code ≡ flat x [] → length (encode_all w) ≡ n → Describes x w → ⊥
