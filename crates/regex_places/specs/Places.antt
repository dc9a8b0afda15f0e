-- Sets of places of a text. `Reach t P S j`: a word of P leads from a place of S to j. Assumes nothing: these are definitions.
use Rattle.std.specs.Prelude.{◌≡◌, Bool, true, false, List, [], ◌∷◌, ◌⊎◌, ℕ, ◌+◌, ◌≤◌, ◌<◌, length, set, drop, get_or}
use Rattle.std.proofs.Math.Seq.{slice}
use Rattle.regex_definition.specs.Words.{Row, Times, upto, Told}
use Rattle.regex_definition.specs.Regexp.{Range, Regexp, hits, Describes}
use Rattle.regex_code.specs.Flat.{flat, flag, flat_ranges, Word}

pub record Reach (t : List ℕ) (P : List ℕ → Type 0) (S : ℕ → Type 0) (j : ℕ) : Type 0 where
  pub from : ℕ
  pub is_from : S from
  pub order : from ≤ j
  pub end : j ≤ length t
  pub word : P (slice from j t)

-- the places that a room has
abbrev pub In : List ℕ → ℕ → Type 0
In ms j = get_or ms j 0 ≡ 1

-- the places of ms' are those to which words of P lead from those of ms
pub record Image (t : List ℕ) (P : List ℕ → Type 0) (ms ms' : List ℕ) : Type 0 where
  pub forth : (j : ℕ) → Reach t P (In ms) j → In ms' j
  pub back : (j : ℕ) → j ≤ length t → In ms' j → Reach t P (In ms) j

-- what the functions ask: a room with all places of the text
pub record Fits (t ms : List ℕ) : Type 0 where
  pub short : length t < 1024
  pub room : length t < length ms

-- .. for the words of what stands at `at`, as F says
pub record Reached (s : List ℕ) (at : ℕ) (t : List ℕ) (F : (List ℕ → Type 0) → List ℕ → Type 0) (ms ms' : List ℕ) : Type 0 where
  pub long : length ms' ≡ length ms
  pub of : (x : Regexp) (r : List ℕ) → drop at s ≡ flat x r → Image t (F (Describes x)) ms ms'

abbrev pub once : (List ℕ → Type 0) → List ℕ → Type 0
once P = P

abbrev pub rows : ℕ → (List ℕ → Type 0) → List ℕ → Type 0
rows n P = Row P n

abbrev pub most : ℕ → (List ℕ → Type 0) → List ℕ → Type 0
most h P = Times 0 (upto h) P

-- whether the word at a place is 2
pub record IsRow (s : List ℕ) (at : ℕ) (b : Bool) : Type 0 where
  pub yes : b ≡ true → Word s at 2
  pub no' : b ≡ false → at < length s → get_or s at 0 ≡ 2 → ⊥

-- ---- leaves

-- v moves to the next place if the class at `at` has c
pub record Moves (s : List ℕ) (at c v r : ℕ) : Type 0 where
  pub of :
      (comp : Bool) (gs : List Range) (l : List ℕ) → drop (at + 1) s ≡ flag comp ∷ length gs ∷ flat_ranges gs l
      → (r ≡ 1 → (v ≡ 1) × (hits comp gs c ≡ true)) × (v ≡ 1 → hits comp gs c ≡ true → r ≡ 1)

-- the places above i have moved, those up to i not yet
pub record Moving (s : List ℕ) (at : ℕ) (t ms ms' : List ℕ) (i : ℕ) : Type 0 where
  pub long : length ms' ≡ length ms
  pub few : i ≤ length t
  pub low : (j : ℕ) → j ≤ i → get_or ms' j 0 ≡ get_or ms j 0
  pub high : (j : ℕ) → i ≤ j → j < length t → Moves s at (get_or t j 0) (get_or ms j 0) (get_or ms' (j + 1) 0)

-- the first places are those of another room
pub record Same (n : ℕ) (ms q q' : List ℕ) : Type 0 where
  pub long : length q' ≡ length q
  pub is : (j : ℕ) → j < n → get_or q' j 0 ≡ get_or ms j 0

-- the place i is there if v is 1; b says whether one was new, before and now
pub data Adds (ms : List ℕ) (i v : ℕ) (b : Bool) : List ℕ → Bool → Type 0 where
  was : (v ≡ 1 → In ms i) → Adds ms i v b ms b
  new : v ≡ 1 → Adds ms i v b (set ms i 1) true

-- both sets, of the first places; b says whether there are more than in the first
pub record Both (n : ℕ) (ms q ms' : List ℕ) (b : Bool) : Type 0 where
  pub long : length ms' ≡ length ms
  pub forth : (j : ℕ) → j < n → In ms j ⊎ In q j → In ms' j
  pub back : (j : ℕ) → In ms' j → In ms j ⊎ In q j
  pub rest : (j : ℕ) → n ≤ j → get_or ms' j 0 ≡ get_or ms j 0
  pub still : b ≡ false → (j : ℕ) → j < n → In q j → In ms j

-- none of the first places
pub record None (n : ℕ) (ms : List ℕ) : Type 0 where
  pub at : (j : ℕ) → j < n → In ms j → ⊥

-- ---- repeats

-- the places and those to which one word leads
pub record Wider (s : List ℕ) (at : ℕ) (t ms ms' : List ℕ) (b : Bool) : Type 0 where
  pub long : length ms' ≡ length ms
  pub forth : (x : Regexp) (r : List ℕ) → drop at s ≡ flat x r → (j : ℕ) → j ≤ length t → In ms j ⊎ Reach t (Describes x) (In ms) j → In ms' j
  pub back : (x : Regexp) (r : List ℕ) → drop at s ≡ flat x r → (j : ℕ) → j ≤ length t → In ms' j → In ms j ⊎ Reach t (Describes x) (In ms) j
  pub still : b ≡ false → (x : Regexp) (r : List ℕ) → drop at s ≡ flat x r → (j : ℕ) → Reach t (Describes x) (In ms) j → In ms j

-- what is left to do gives the whole
pub record Left (s : List ℕ) (at : ℕ) (t : List ℕ) (F G : (List ℕ → Type 0) → List ℕ → Type 0) (ms₀ ms : List ℕ) : Type 0 where
  pub long : length ms ≡ length ms₀
  pub of :
      (x : Regexp) (r : List ℕ) → drop at s ≡ flat x r → (ms' : List ℕ) → Image t (F (Describes x)) ms ms' → Image t (G (Describes x)) ms₀ ms'

-- .. of the expression at `at`, with the one at p left
pub record Rest (s : List ℕ) (p : ℕ) (t : List ℕ) (P : List ℕ → Type 0) (ms₀ ms r : List ℕ) : Type 0 where
  pub part : Regexp
  pub code : drop p s ≡ flat part r
  pub all : (ms' : List ℕ) → Image t (Describes part) ms ms' → Image t P ms₀ ms'

pub record Row-left (s : List ℕ) (at p : ℕ) (t ms₀ ms : List ℕ) : Type 0 where
  pub long : length ms ≡ length ms₀
  pub from : at ≤ p
  pub of : (x : Regexp) (r : List ℕ) → drop at s ≡ flat x r → Rest s p t (Describes x) ms₀ ms r

-- the answer
pub record Placed (s cs : List ℕ) (b : Bool) : Type 0 where
  pub of : (x : Regexp) → s ≡ flat x [] → Told (Describes x cs) b
