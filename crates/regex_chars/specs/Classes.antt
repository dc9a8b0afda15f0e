-- What `class_has` answers of a class whose code stands at `at`. Assumes nothing: these are definitions.
use Rattle.std.specs.Prelude.{ℕ, ◌+◌, ◌≤◌, ◌≡◌, Bool, true, false, not, List, ◌∷◌, length, drop}
use Rattle.regex_definition.specs.Regexp.{Range, inside, hits}
use Rattle.regex_code.specs.Flat.{flag, flat_ranges}

-- whether the class has c
pub record Hits (s : List ℕ) (at c : ℕ) (b : Bool) : Type 0 where
  pub of : (comp : Bool) (gs : List Range) (r : List ℕ) → drop (at + 1) s ≡ flag comp ∷ length gs ∷ flat_ranges gs r → b ≡ hits comp gs c

-- whether one of the n ranges from `at` on has c
pub record Holds (s : List ℕ) (at n c : ℕ) (b : Bool) : Type 0 where
  pub of : (gs : List Range) (r : List ℕ) → drop at s ≡ flat_ranges gs r → n ≡ length gs → b ≡ inside gs c

-- what is left of ranges: as many from i on as `left` says, and those before them do not have c
pub record Ahead (s : List ℕ) (c i left : ℕ) (gs : List Range) (r : List ℕ) : Type 0 where
  pub rest : List Range
  pub is : drop i s ≡ flat_ranges rest r
  pub count : left ≡ length rest
  pub same : inside gs c ≡ inside rest c

pub record Scanning (s : List ℕ) (at n c i left : ℕ) : Type 0 where
  pub fits : i ≤ length s
  pub of : (gs : List Range) (r : List ℕ) → drop at s ≡ flat_ranges gs r → n ≡ length gs → Ahead s c i left gs r

-- a complement has what the ranges do not have
abbrev pub flip_of : Bool → Bool → Bool
flip_of false b = b
flip_of true b = not b
