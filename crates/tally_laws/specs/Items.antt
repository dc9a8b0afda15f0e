-- The items of a plan, by document 01's table "Plan items": "One byte of kind, then a body whose length the kind fixes".
use Rattle.std.specs.Prelude.{ℕ, zero, suc, ◌+◌, Bool, cond, ◌||◌, List, [], ◌∷◌, eqb, length, drop}

-- a count or a length in 2 bytes: 03 child, 04 descendant, 09 filter, 16 and, 17 or
abbrev pub has_two : ℕ → Bool
has_two k = eqb k 0x03 || (eqb k 0x04 || (eqb k 0x09 || (eqb k 0x16 || eqb k 0x17)))

-- pool start 2 and length 2: 05 name, 12 text
abbrev pub has_four : ℕ → Bool
has_four k = eqb k 0x05 || eqb k 0x12

-- a number in 8 bytes: 06 index, 10 integer, 11 float bits
abbrev pub has_eight : ℕ → Bool
has_eight k = eqb k 0x06 || (eqb k 0x10 || eqb k 0x11)

-- one byte: 13 constant, 14 compare
abbrev pub has_one : ℕ → Bool
has_one k = eqb k 0x13 || eqb k 0x14

-- how many bytes follow the byte of a kind: 07 slice has 1 and three of 8, and every kind that is not named has none
unfoldable pub body_length : ℕ → ℕ
body_length k = cond (has_two k) 2 (cond (has_four k) 4 (cond (has_eight k) 8 (cond (has_one k) 1 (cond (eqb k 0x07) 25 0))))

-- the kinds of the first n items
unfoldable pub kinds_within : ℕ → List ℕ → List ℕ
kinds_within zero s = []
kinds_within (suc n) [] = []
kinds_within (suc n) (k ∷ s) = k ∷ kinds_within n (drop (body_length k) s)

-- the kinds of all items in their order: an item has a byte at least, so there are at most as many as bytes
abbrev pub kinds_of : List ℕ → List ℕ
kinds_of s = kinds_within (length s) s

-- how often a kind occurs
unfoldable pub occurrences : ℕ → List ℕ → ℕ
occurrences k [] = 0
occurrences k (x ∷ l) = cond (eqb k x) 1 0 + occurrences k l
