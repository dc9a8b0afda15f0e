-- What is tested of a text by its kind n: all its characters beyond ASCII have n bytes, where n is 2, 3 or 4; or at most three, where n is 5; or any length, where
-- it is 6. Assumes nothing: these are definitions.
use Rattle.std.specs.Prelude.{ℕ, ◌≤◌, ◌≡◌, cond, ◌||◌, ◌&&◌, eqb, leb}
use Rattle.text.specs.Placed.{is_tail, is_asked_plain, is_asked}

-- a mark where x is in 80..top, and else 0
unfoldable pub low_mark : ℕ → ℕ → ℕ → ℕ
low_mark x top mark = cond (leb 0x80 x && leb x top) mark 0

-- c is ASCII, continues a character, or begins one in lo..hi
pub record Within (lo hi c : ℕ) : Type 0 where
  pub lead : 0xC0 ≤ c → lo ≤ c
  pub top : c ≤ hi

-- x, if it continues a character, is within the bounds that c has for the next byte
abbrev pub Start4 : ℕ → ℕ → Type 0
Start4 c x = c ≡ 0xF0 → 0x80 ≤ x → 0x90 ≤ x

pub record Bounds3 (c x : ℕ) : Type 0 where
  pub low : c ≡ 0xE0 → 0x80 ≤ x → 0xA0 ≤ x
  pub high : c ≡ 0xED → x ≤ 0x9F

-- c occurs in such a text, and x behind it, as far as the least number tells
pub record Fits (n c x : ℕ) : Type 0 where
  pub two : n ≡ 2 → Within 0xC2 0xDF c
  pub three : n ≡ 3 → Within 0xE0 0xEF c × Bounds3 c x
  pub four : n ≡ 4 → Within 0xF0 0xF3 c × Start4 c x
  pub mixed : 5 ≤ n → 0xC0 ≤ c → 0xC2 ≤ c

-- the least number that a byte which fits is turned into
unfoldable pub least_of : ℕ → ℕ
least_of n = cond (eqb n 2) 0x22 (cond (eqb n 3) 0x31 (cond (eqb n 4) 0x3C 2))

-- the same, as far as the greatest number tells
pub record Under (n c x : ℕ) : Type 0 where
  pub wide : n ≡ 5 → (c ≤ 0xEF) × Bounds3 c x
  pub any : n ≡ 6 → (c ≤ 0xF4) × (c ≡ 0xF4 → x ≤ 0x8F)

-- the greatest number that such a byte is turned into
unfoldable pub top_of : ℕ → ℕ
top_of n = cond (eqb n 5) 0xEE (cond (eqb n 6) 0xF3 0xFF)

-- the bounds that neither tells of
pub record Starts (n c x : ℕ) : Type 0 where
  pub any : n ≡ 6 → Bounds3 c x × Start4 c x

-- x continues a character if and only if one of the three bytes before begins a character that is not at its end
pub record Agrees (n a b c x : ℕ) : Type 0 where
  pub two : n ≡ 2 → is_tail x ≡ leb 0xC0 c
  pub three : n ≡ 3 → is_tail x ≡ (leb 0xE0 c || leb 0xE0 b)
  pub four : n ≡ 4 → is_tail x ≡ ((leb 0xF0 c || leb 0xF0 b) || leb 0xF0 a)
  pub wide : n ≡ 5 → is_tail x ≡ is_asked_plain b c
  pub any : n ≡ 6 → is_tail x ≡ is_asked a b c
