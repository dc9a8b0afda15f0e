-- Expressions, the words that one describes, and the same as a Bool that can be worked out. A word is a list of characters.
-- Assumes nothing: these are definitions.
use Rattle.std.specs.Prelude.{◌≡◌, Bool, true, false, ◌&&◌, ◌||◌, not, List, [], ◌∷◌, ◌⊎◌, ℕ, zero, suc, leb, length}
use Rattle.regex_definition.specs.Chars.{within}
use Rattle.regex_definition.specs.Words.{Join, Times, Most, upto, any}

-- the characters from low to high; none where high is less
pub record Range : Type 0 where
  pub low : ℕ
  pub high : ℕ

-- whether a character is in one of the ranges
abbrev pub inside : List Range → ℕ → Bool
inside [] c = false
inside (g ∷ gs) c = within g.low g.high c || inside gs c

-- whether a class has a character: true stands for the complement
abbrev pub hits : Bool → List Range → ℕ → Bool
hits false gs c = inside gs c
hits true gs c = not (inside gs c)

-- A group is a tree at its place. A character is the class of one range, from itself to itself.
pub data Regexp : Type 0 where
  empty : Regexp
  class : Bool → List Range → Regexp
  then : Regexp → Regexp → Regexp
  or : Regexp → Regexp → Regexp
  times : ℕ → Most → Regexp → Regexp

-- one character that the class has
pub record One (comp : Bool) (gs : List Range) (w : List ℕ) : Type 0 where
  pub char : ℕ
  pub eq : w ≡ char ∷ []
  pub hit : hits comp gs char ≡ true

-- THE MEANING: the words that an expression describes
abbrev pub Describes : Regexp → List ℕ → Type 0
Describes empty w = w ≡ []
Describes (class comp gs) w = One comp gs w
Describes (then x y) w = Join (Describes x) (Describes y) w
Describes (or x y) w = Describes x w ⊎ Describes y w
Describes (times lo hi x) w = Times lo hi (Describes x) w

-- THE SAME AS A BOOL
abbrev pub is_nil : List ℕ → Bool
is_nil [] = true
is_nil (c ∷ w) = false

abbrev pub is_one : Bool → List Range → List ℕ → Bool
is_one comp gs [] = false
is_one comp gs (c ∷ []) = hits comp gs c
is_one comp gs (c ∷ d ∷ w) = false

-- some cut of the word has p of the first part and q of the second
abbrev pub cut : (List ℕ → Bool) → (List ℕ → Bool) → List ℕ → Bool
cut p q [] = p [] && q []
cut p q (c ∷ w) = (p [] && q (c ∷ w)) || cut (λ u. p (c ∷ u)) q w

abbrev pub row_of : (List ℕ → Bool) → ℕ → List ℕ → Bool
row_of p zero w = is_nil w
row_of p (suc n) w = cut p (row_of p n) w

-- some number of rows up to n, and no fewer than lo
abbrev pub some_row : (List ℕ → Bool) → ℕ → ℕ → List ℕ → Bool
some_row p lo zero w = leb lo zero && row_of p zero w
some_row p lo (suc n) w = (leb lo (suc n) && row_of p (suc n) w) || some_row p lo n w

-- any number of words that are not empty; k bounds their number
abbrev pub first_of : (List ℕ → Bool) → (List ℕ → Bool) → List ℕ → Bool
first_of p q [] = true
first_of p q (c ∷ w) = cut (λ u. p (c ∷ u)) q w

abbrev pub star_of : (List ℕ → Bool) → ℕ → List ℕ → Bool
star_of p zero w = is_nil w
star_of p (suc k) w = first_of p (star_of p k) w

abbrev pub times_of : (List ℕ → Bool) → ℕ → Most → List ℕ → Bool
times_of p lo (upto h) w = some_row p lo h w
times_of p lo any w = cut (row_of p lo) (λ u. star_of p (length u) u) w

abbrev pub described : Regexp → List ℕ → Bool
described empty w = is_nil w
described (class comp gs) w = is_one comp gs w
described (then x y) w = cut (described x) (described y) w
described (or x y) w = described x w || described y w
described (times lo hi x) w = times_of (described x) lo hi w
