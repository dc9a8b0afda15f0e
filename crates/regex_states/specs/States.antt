-- A state of an expression: its number, of which 1 is the start, and its marks. Assumes nothing: these are definitions.
use Rattle.std.specs.Prelude.{◌≡◌, Bool, true, false, List, [], ◌∷◌, ◌++◌, ◌⊎◌, ℕ}
use Rattle.regex_definition.specs.Words.{Told}
use Rattle.regex_definition.specs.Regexp.{Regexp, Describes}
use Rattle.regex_marks.specs.Marks.{Rest, Good}

-- w is an end that state k awaits, whose marks are ms: of the start any text of x, of another what the marks await
abbrev pub After : Regexp → ℕ → List ℕ → List ℕ → Type 0
After x k ms w = ((k ≡ 1) × Describes x w) ⊎ Rest x 0 ms w

-- c leads from state k to state t
pub record Leads (x : Regexp) (c k : ℕ) (ms : List ℕ) (t : ℕ) (ms' : List ℕ) : Type 0 where
  pub forth : (w : List ℕ) → After x k ms (c ∷ w) → After x t ms' w
  pub back : (w : List ℕ) → After x t ms' w → After x k ms (c ∷ w)

-- what is told of a text that ends in state k holds whatever follows
pub record Settles (x : Regexp) (k : ℕ) (ms : List ℕ) (b : Bool) : Type 0 where
  pub grows : b ≡ true → (u v : List ℕ) → Describes x u → Describes x (u ++ v)
  pub dies : b ≡ false → (w : List ℕ) → After x k ms w → ⊥

-- the marks can be moved on, and what the state tells is right
pub record StateRight (x : Regexp) (k : ℕ) (ms : List ℕ) (b end : Bool) : Type 0 where
  pub good : Good x 0 ms
  pub told : Told (After x k ms []) b
  pub settled : end ≡ true → Settles x k ms b
