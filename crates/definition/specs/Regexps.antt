-- match and search of a text and an expression: document 02, W4. What an expression describes stands in the crate `regex_definition`, which knows no bytes.
use Rattle.std.specs.Prelude.{ℕ, List, Bool, false, cond, leb, length}
use Rattle.std.proofs.Math.Option.{Option, none, some}
use Rattle.regex_definition.specs.Chars.{max_expression}
use Rattle.regex_definition.specs.Regexp.{Regexp, described}
use Rattle.regex_definition.specs.Scope.{Scope, widen}
use Rattle.regex_definition.specs.Read.{read_regexp}
use Rattle.definition.specs.Utf8.{scalars_of}
use Rattle.definition.specs.Compare.{Value}
use Rattle.definition.specs.Compare.Value.{nothing}

-- the expression of the bytes, if it is one of the part; more than 1,024 bytes are none
unfoldable pub regexp_of : List ℕ → Option Regexp
regexp_of e = cond (leb (length e) max_expression) (read_regexp (scalars_of e)) none

-- "a text outside this part gives false"
unfoldable pub test_by : Scope → List ℕ → Option Regexp → Bool
test_by scope w none = false
test_by scope w (some x) = described (widen scope x) w

-- "match takes the whole text, search any part of it": the scopes whole and part
unfoldable pub regex_test : Scope → List ℕ → List ℕ → Bool
regex_test scope t e = test_by scope (scalars_of t) (regexp_of e)

-- "both are false where either argument is no text"; the text stands first, then the expression
unfoldable pub regex_text : Scope → List ℕ → Value → Bool
regex_text scope t nothing = false
regex_text scope t Value.null = false
regex_text scope t (Value.boolean b) = false
regex_text scope t (Value.integer z) = false
regex_text scope t (Value.float x) = false
regex_text scope t (Value.text e) = regex_test scope t e
regex_text scope t (Value.list ks) = false
regex_text scope t (Value.map ks) = false

unfoldable pub regex_values : Scope → Value → Value → Bool
regex_values scope nothing v = false
regex_values scope Value.null v = false
regex_values scope (Value.boolean b) v = false
regex_values scope (Value.integer z) v = false
regex_values scope (Value.float x) v = false
regex_values scope (Value.text t) v = regex_text scope t v
regex_values scope (Value.list ks) v = false
regex_values scope (Value.map ks) v = false
