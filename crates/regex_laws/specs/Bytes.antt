-- THE STATEMENT OVER BOTH FUNCTIONS: match and search hold of two byte texts exactly if the second has at most 1,024 bytes, a tree of the
-- grammar spells its characters, and the tree's meaning, widened for search, describes the characters of the first. Assumes nothing.
use Rattle.std.specs.Prelude.{◌≡◌, refl, true, List, ◌↔◌, ℕ, ◌≤◌, leb, length}
use Rattle.std.proofs.lemmas.Bool.{false≢true}
use Rattle.std.proofs.Math.Option.{Option, none, some}
use Rattle.std.proofs.Common.{le-leb, leb-true}
use Rattle.regex_definition.specs.Chars.{max_expression}
use Rattle.regex_definition.specs.Regexp.{Regexp, Describes}
use Rattle.regex_definition.specs.Agree.{described_describes}
use Rattle.regex_definition.specs.Scope.{Scope, widen}
use Rattle.regex_definition.specs.Grammar.{Spells}
use Rattle.definition.specs.Utf8.{scalars_of}
use Rattle.definition.specs.Regexps.{regexp_of, regex_test, test_by}
use Rattle.utf8_laws.specs.Bytes.{by_test}
use Rattle.regex_laws.specs.Steps.{none_some}
use Rattle.regex_laws.specs.Reading.{spells_of_read, read_of_spells}

-- the expression of bytes
pub spells_of_bytes : (e : List ℕ) (x : Regexp) → regexp_of e ≡ some x → (length e ≤ max_expression) × Spells (scalars_of e) x
unfolding regexp_of
spells_of_bytes e x h =
    by_test (leb (length e) max_expression)
    (λ t. (leb-true (length e) max_expression t, spells_of_read (scalars_of e) x (rw t at h)))
    (λ f. absurd (none_some (rw f at h)))

pub bytes_of_spells : (e : List ℕ) (x : Regexp) → length e ≤ max_expression → Spells (scalars_of e) x → regexp_of e ≡ some x
unfolding regexp_of
bytes_of_spells e x l h = rw (le-leb (length e) max_expression l) (read_of_spells (scalars_of e) x h)

-- match, for the scope whole, or search, for the scope part, holds of a text and an expression
pub record Holds (scope : Scope) (text e : List ℕ) : Type 0 where
  pub expr : Regexp
  pub short : length e ≤ max_expression
  pub spells : Spells (scalars_of e) expr
  pub describes : Describes (widen scope expr) (scalars_of text)

holds_of : (scope : Scope) (text e : List ℕ) (o : Option Regexp) → regexp_of e ≡ o → test_by scope (scalars_of text) o ≡ true → Holds scope text e
unfolding test_by
holds_of scope text e none h t = absurd (false≢true t)
holds_of scope text e (some x) h t =
    let s = spells_of_bytes e x h in
    record { expr = x; short = s.0; spells = s.1; describes = (described_describes (widen scope x) (scalars_of text)).0 t }

pub test_holds : (scope : Scope) (text e : List ℕ) → (regex_test scope text e ≡ true) ↔ Holds scope text e
unfolding regex_test test_by
test_holds scope text e = (holds_of scope text e (regexp_of e) refl, back)
  where
    back : Holds scope text e → test_by scope (scalars_of text) (regexp_of e) ≡ true
    back h =
        rw (bytes_of_spells e h.expr h.short h.spells) ((described_describes (widen scope h.expr) (scalars_of text)).1 h.describes)
