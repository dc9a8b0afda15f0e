-- How an expression is written for match and for search.
use Rattle.std.specs.Prelude.{Option as Answer, Some, None}
use Rattle.std.specs.Prelude.{◌≡◌, refl, cond, List, [], ℕ, ◌≤◌, eqb, length, take}
use Rattle.std.proofs.Common.{sym}
use Rattle.std.proofs.Math.Option.{none, some}
use Rattle.regex_definition.specs.Regexp.{Regexp}
use Rattle.regex_definition.specs.Scope.{Scope, whole, part, widen}
use Rattle.definition.specs.Plans.{scope_kind}
use Rattle.definition.specs.Regexps.{regexp_of}
use Rattle.regex_code.specs.Flat.{flat}

-- the scope of a plan kind
abbrev pub scope_for : ℕ → Scope
scope_for k = cond (eqb k 0x1D) part whole

pub scope_for_lem : (s : Scope) (k : ℕ) → scope_kind s ≡ k → scope_for k ≡ s
unfolding scope_kind
scope_for_lem whole k e = rw (sym e) refl
scope_for_lem part k e = rw (sym e) refl

-- the first n words are the code of the expression e, widened for the scope
pub record IsWidened (scope : Scope) (e q : List ℕ) (n : ℕ) : Type 0 where
  pub expr : Regexp
  pub is : regexp_of e ≡ some expr
  pub inside : n ≤ length q
  pub code : take n q ≡ flat (widen scope expr) []

pub data Widened (scope : Scope) (e q : List ℕ) : Answer ℕ → Type 0 where
  code : (n : ℕ) → IsWidened scope e q n → Widened scope e q (Some n)
  outside : regexp_of e ≡ none → Widened scope e q None
