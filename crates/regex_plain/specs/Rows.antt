-- A row of single characters in the code of an expression: for each the words 2 1 0 1 C C, and 0 behind the last; and what the
-- functions answer of it. Assumes nothing: these are definitions.
use Rattle.std.specs.Prelude.{ℕ, zero, suc, ◌+◌, ◌*◌, ◌≤◌, ◌≡◌, Bool, List, [], ◌∷◌, ◌++◌, length, drop, get_or}
use Rattle.definition.specs.Utf8.{encode_all}
use Rattle.regex_definition.specs.Words.{Join, Told}
use Rattle.regex_definition.specs.Regexp.{Regexp, Describes}
use Rattle.regex_code.specs.Flat.{flat}
use Rattle.regex_chars.specs.Laws.{Spells}

-- n characters from `at` on
abbrev pub letters : List ℕ → ℕ → ℕ → List ℕ
letters s at zero = []
letters s at (suc n) = get_or s (at + 4) 0 ∷ letters s (at + 6) n

-- four words from `at` on
pub record Four (s : List ℕ) (at w x y z : ℕ) : Type 0 where
  pub first : get_or s at 0 ≡ w
  pub second : get_or s (at + 1) 0 ≡ x
  pub third : get_or s (at + 2) 0 ≡ y
  pub fourth : get_or s (at + 3) 0 ≡ z

-- the words of one
pub record Letter (s : List ℕ) (at : ℕ) : Type 0 where
  pub fits : at + 6 ≤ length s
  pub seq : get_or s at 0 ≡ 2
  pub cls : get_or s (at + 1) 0 ≡ 1
  pub comp : get_or s (at + 2) 0 ≡ 0
  pub one : get_or s (at + 3) 0 ≡ 1
  pub same : get_or s (at + 4) 0 ≡ get_or s (at + 5) 0

-- the words of any text
pub record Free (s : List ℕ) (at : ℕ) : Type 0 where
  pub rep : get_or s at 0 ≡ 5
  pub none : get_or s (at + 1) 0 ≡ 0
  pub cls : get_or s (at + 2) 0 ≡ 1
  pub comp : get_or s (at + 3) 0 ≡ 1
  pub few : get_or s (at + 4) 0 ≡ 0

-- every word, and the words that begin with l
abbrev pub Every : List ℕ → Type 0
Every w = Unit {0}

abbrev pub Front : List ℕ → List ℕ → Type 0
Front l w = Join (λ u. u ≡ l) Every w

-- behind n characters of x stands what is left of it
pub record Past (s : List ℕ) (at n i : ℕ) (x : Regexp) (r : List ℕ) : Type 0 where
  pub rest : Regexp
  pub is : drop i s ≡ flat rest r
  pub forth : (w : List ℕ) → Describes x w → Join (λ u. u ≡ letters s at n) (Describes rest) w
  pub back : (w : List ℕ) → Join (λ u. u ≡ letters s at n) (Describes rest) w → Describes x w

pub record Spelt (s : List ℕ) (at n i : ℕ) : Type 0 where
  pub place : i ≡ at + 6 * n
  pub fits : i ≤ length s
  pub of : (x : Regexp) (r : List ℕ) → drop at s ≡ flat x r → Past s at n i x r

-- the expression at `at` is the row of n characters
pub record Row (s : List ℕ) (at n next : ℕ) (x : Regexp) (r : List ℕ) : Type 0 where
  pub behind : drop next s ≡ r
  pub forth : (w : List ℕ) → Describes x w → w ≡ letters s at n
  pub back : Describes x (letters s at n)

-- the expression at `at` is a row of n characters, and next is behind it
pub record Plainly (s : List ℕ) (at n next : ℕ) : Type 0 where
  pub place : at + 6 * n ≤ length s
  pub fits : next ≤ length s
  pub of : (x : Regexp) (r : List ℕ) → drop at s ≡ flat x r → Row s at n next x r

-- the text of from..to begins with the characters, which end at next
pub record Begins (s : List ℕ) (at n : ℕ) (t : List ℕ) (from to next : ℕ) : Type 0 where
  pub within : next ≤ to
  pub yes : (w : List ℕ) → Spells t from to w → Join (λ u. u ≡ letters s at n) (Spells t next to) w

-- it does not
pub record Differs (s : List ℕ) (at n : ℕ) (t : List ℕ) (from to : ℕ) : Type 0 where
  pub not_so : (w : List ℕ) → Spells t from to w → Front (letters s at n) w → ⊥

-- the text is the characters
pub record Whole (s : List ℕ) (at n : ℕ) (t : List ℕ) (b : Bool) : Type 0 where
  pub of : (w : List ℕ) → t ≡ encode_all w → Told (w ≡ letters s at n) b

-- the characters stand in the text
pub record Found (s : List ℕ) (at n : ℕ) (t : List ℕ) (b : Bool) : Type 0 where
  pub of : (w : List ℕ) → t ≡ encode_all w → Told (Join Every (Front (letters s at n)) w) b

-- the code is that of a search for n characters
pub record Sought (s : List ℕ) (n : ℕ) : Type 0 where
  pub place : 7 + 6 * n ≤ length s
  pub of :
      (x : Regexp) → s ≡ flat x [] → (w : List ℕ)
      → (Describes x w → Join Every (Front (letters s 7 n)) w) × (Join Every (Front (letters s 7 n)) w → Describes x w)

-- the answer is b
pub record Known (s t : List ℕ) (b : Bool) : Type 0 where
  pub of : (x : Regexp) (w : List ℕ) → s ≡ flat x [] → t ≡ encode_all w → Told (Describes x w) b

-- a text that is described is described with any end
pub record Open (s : List ℕ) : Type 0 where
  pub of : (x : Regexp) → s ≡ flat x [] → (u v : List ℕ) → Describes x u → Describes x (u ++ v)
