-- Sets of words, and the three ways to make one of others: two in a row, n in a row, from lo to hi in a row.
-- `Told P b`: the Bool b says whether P. Assumes nothing.
use Rattle.std.specs.Prelude.{◌≡◌, Bool, true, false, List, [], ◌++◌, ℕ, zero, suc, ◌≤◌}

-- a word of P, and then a word of Q
pub record Join (P Q : List ℕ → Type 0) (w : List ℕ) : Type 0 where
  pub fore : List ℕ
  pub back : List ℕ
  pub eq : w ≡ fore ++ back
  pub is_fore : P fore
  pub is_back : Q back

-- n words of P in a row
abbrev pub Row : (List ℕ → Type 0) → ℕ → List ℕ → Type 0
Row P zero w = w ≡ []
Row P (suc n) w = Join P (Row P n) w

-- the upper end of a repeat
pub data Most : Type 0 where
  upto : ℕ → Most
  any : Most

abbrev pub Within : ℕ → Most → Type 0
Within n (upto h) = n ≤ h
Within n any = Unit {0}

-- from lo to hi words of P in a row
pub record Times (lo : ℕ) (hi : Most) (P : List ℕ → Type 0) (w : List ℕ) : Type 0 where
  pub count : ℕ
  pub least : lo ≤ count
  pub most : Within count hi
  pub row : Row P count w

-- what a Bool tells of a statement
pub data Told (P : Type 0) : Bool → Type 0 where
  holds : P → Told P true
  fails : (P → ⊥) → Told P false
