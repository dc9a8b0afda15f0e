-- Which byte may stand behind which three in a UTF-8 text, as facts of numbers. Before the first byte stand zeros, and one behind the last.
-- Assumes nothing: these are definitions.
use Rattle.std.specs.Prelude.{ℕ, ◌+◌, ◌≤◌, ◌<◌, ◌≡◌, Bool, ◌||◌, List, leb, length, get_or}
use Rattle.definition.specs.Bytes.{within}

-- a byte that continues a character
abbrev pub is_tail : ℕ → Bool
is_tail x = within 0x80 0xBF x

-- whether one of three bytes asks for a byte that continues a character: the last of them as the first byte of any character that has one more,
-- the middle one of a character of three or four bytes, the first of a character of four
abbrev pub is_asked_plain : ℕ → ℕ → Bool
is_asked_plain b c = leb 0xC0 c || leb 0xE0 b

abbrev pub is_asked : ℕ → ℕ → ℕ → Bool
is_asked a b c = is_asked_plain b c || leb 0xF0 a

-- c occurs in UTF-8, and x is within the bounds that c has for the next byte
pub record Bounded (c x : ℕ) : Type 0 where
  pub low3 : c ≡ 0xE0 → 0xA0 ≤ x
  pub high3 : c ≡ 0xED → x ≤ 0x9F
  pub low4 : c ≡ 0xF0 → 0x90 ≤ x
  pub high4 : c ≡ 0xF4 → x ≤ 0x8F
  pub lead : 0xC0 ≤ c → 0xC2 ≤ c
  pub top : c ≤ 0xF4

-- c occurs in UTF-8, has no bounds of its own, and begins no character of four bytes
pub record Unbound (c : ℕ) : Type 0 where
  pub first3 : c ≡ 0xE0 → ⊥
  pub last3 : c ≡ 0xED → ⊥
  pub top : c < 0xF0
  pub lead : 0xC0 ≤ c → 0xC2 ≤ c

-- x may stand behind a, b and c
pub record Placed (a b c x : ℕ) : Type 0 where
  pub agrees : is_tail x ≡ is_asked a b c
  pub bounded : Bounded c x

-- x may stand behind b and c, and any byte before them that begins no character of four bytes
pub record Plain (b c x : ℕ) : Type 0 where
  pub agrees : is_tail x ≡ is_asked_plain b c
  pub unbound : Unbound c

-- the byte behind the three at j
abbrev pub PlacedAt : List ℕ → ℕ → Type 0
PlacedAt s j = Placed (get_or s j 0) (get_or s (j + 1) 0) (get_or s (j + 2) 0) (get_or s (j + 3) 0)

abbrev pub PlacedIn : List ℕ → ℕ → ℕ → Type 0
PlacedIn s from end = (j : ℕ) → from ≤ j → j < end → PlacedAt s j

-- the first three bytes of a text, and its end
pub record Ends (s : List ℕ) : Type 0 where
  pub first : Placed 0 0 0 (get_or s 0 0)
  pub second : Placed 0 0 (get_or s 0 0) (get_or s 1 0)
  pub third : Placed 0 (get_or s 0 0) (get_or s 1 0) (get_or s 2 0)
  pub end : (j : ℕ) → j + 3 ≡ length s → Placed (get_or s j 0) (get_or s (j + 1) 0) (get_or s (j + 2) 0) 0
