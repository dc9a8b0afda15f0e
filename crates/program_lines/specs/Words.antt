-- What the words of a line stand for.
use Rattle.std.specs.Borrow.{Bor}
use Rattle.std.specs.Prelude.{ℕ, ◌+◌, ◌++◌, ◌≢◌, All, ◌*◌, ◌-◌, ◌/◌, ◌%◌, ◌≤◌, ◌<◌, ◌≡◌, List, [], ◌∷◌, cond, ltb, leb, length, get_or, Option, None, Some}

-- the value of a hexadecimal digit: 0-9, A-F, a-f; and 16 for every other byte
abbrev pub digit_value : ℕ → ℕ
digit_value b =
    cond (ltb b 48) 16
    (cond (leb b 57) (b - 48)
    (cond (ltb b 65) 16
    (cond (leb b 70) (b - 65 + 10)
    (cond (ltb b 97) 16
    (cond (leb b 102) (b - 97 + 10) 16)))))

-- the value of a byte as a digit, if it is one
abbrev pub HasDigit : ℕ → Option ℕ → Type 0
HasDigit b (Some n) = (digit_value b ≡ n) × (n < 16)
HasDigit b None = digit_value b ≡ 16

-- the digit of a value below 16, in lower case
abbrev pub glyph : ℕ → ℕ
glyph n = cond (ltb n 10) (48 + n) (87 + n)

-- two digits make a byte
pub record Pair (high low b : ℕ) : Type 0 where
  pub high_digit : digit_value high < 16
  pub low_digit : digit_value low < 16
  pub is : b ≡ 16 * digit_value high + digit_value low

-- each byte of a word is what its two digits make, and a word of one dash has none
pub record DecodedAs (s out : List ℕ) : Type 0 where
  pub size : 2 * length out ≤ length s
  pub digits : (k : ℕ) → k < length out → Pair (get_or s (2 * k) 0) (get_or s (2 * k + 1) 0) (get_or out k 0)

-- the digits of each byte of s stand in the room, one byte after the other
pub record Encoded (s out : List ℕ) (r : ℕ) : Type 0 where
  pub size : r ≡ 2 * length s
  pub room : r ≤ length out
  pub high : (k : ℕ) → k < length s → get_or out (2 * k) 0 ≡ glyph (get_or s k 0 / 16)
  pub low : (k : ℕ) → k < length s → get_or out (2 * k + 1) 0 ≡ glyph (get_or s k 0 % 16)

-- the number of some decimal digits behind a number n
unfoldable pub decimal : ℕ → List ℕ → ℕ
decimal n [] = n
decimal n (b ∷ s) = decimal (10 * n + (b - 48)) s

-- a number that was read is that of the word's digits
abbrev pub NumberAs : List ℕ → ℕ → Type 0
NumberAs s n = n ≡ decimal 0 s

-- ---- the words of a line

-- the bytes that are left of a line, if any word is
abbrev pub left_of : Option (Bor (List ℕ)) → Option (List ℕ)
left_of None = None
left_of (Some rest) = Some rest.now

-- a word has no blank; it is the last one, or a blank stands behind it, and what follows that is left
abbrev pub CutAt : List ℕ → List ℕ → Option (List ℕ) → Type 0
CutAt rest word None = All (λ b. b ≢ 32) word × (rest ≡ word)
CutAt rest word (Some behind) = All (λ b. b ≢ 32) word × (rest ≡ word ++ (32 ∷ behind))

-- the next word is cut off what is left of a line, where anything is
abbrev pub TakesWord : Option (List ℕ) → Option (List ℕ) → Option (List ℕ) → Type 0
TakesWord None word behind = (word ≡ None) × (behind ≡ None)
TakesWord (Some rest) None behind = ⊥
TakesWord (Some rest) (Some word) behind = CutAt rest word behind

-- where a word was taken, it is as P says
abbrev pub TakenAs : (List ℕ → Type 0) → Option (List ℕ) → Type 0
TakenAs P None = ⊥
TakenAs P (Some word) = P word
