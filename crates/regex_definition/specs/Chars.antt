-- The characters of an expression, which are Unicode scalar values: RFC 9485's classes of characters, and document 02's limits.
use Rattle.std.specs.Prelude.{ℕ, List, [], ◌∷◌, Bool, true, ◌&&◌, ◌||◌, cond, eqb, leb}

-- document 02, W4: "expressions to 1,024 bytes"
abbrev pub max_expression : ℕ
max_expression = 1024

-- document 02, W4: "counted repeats to 64"
abbrev pub max_repeat : ℕ
max_repeat = 64

-- whether lo ≤ c ≤ hi: ABNF's %xLO-HI
abbrev pub within : ℕ → ℕ → ℕ → Bool
within lo hi c = leb lo c && leb c hi

-- whether a test holds of every element
abbrev pub every : (ℕ → Bool) → List ℕ → Bool
every p [] = true
every p (c ∷ s) = p c && every p s

-- NormalChar = %x00-27 / "," / "-" / %x2F-3E / %x40-5A / %x5E-7A / %x7E-D7FF / %xE000-10FFFF
abbrev pub is_normal : ℕ → Bool
is_normal c =
    within 0x00 0x27 c || (within 0x2C 0x2D c || (within 0x2F 0x3E c || (within 0x40 0x5A c || (within 0x5E 0x7A c || (within 0x7E 0xD7FF c || within 0xE000 0x10FFFF c)))))

-- what may stand behind the backslash of a SingleCharEsc: %x28-2B / "-" / "." / "?" / %x5B-5E / %s"n" / %s"r" / %s"t" / %x7B-7D
abbrev pub is_escaped : ℕ → Bool
is_escaped c =
    within 0x28 0x2B c || (within 0x2D 0x2E c || (eqb c 0x3F || (within 0x5B 0x5E c || (eqb c 0x6E || (eqb c 0x72 || (eqb c 0x74 || within 0x7B 0x7D c))))))

-- CCchar, without its escapes: %x00-2C / %x2E-5A / %x5E-D7FF / %xE000-10FFFF
abbrev pub is_class_char : ℕ → Bool
is_class_char c = within 0x00 0x2C c || (within 0x2E 0x5A c || (within 0x5E 0xD7FF c || within 0xE000 0x10FFFF c))

-- DIGIT
abbrev pub is_digit : ℕ → Bool
is_digit c = within 0x30 0x39 c

-- the character that an escape stands for: `\n`, `\r` and `\t` are line feed, carriage return and tab, every other one the character itself
abbrev pub escape_value : ℕ → ℕ
escape_value c = cond (eqb c 0x6E) 0x0A (cond (eqb c 0x72) 0x0D (cond (eqb c 0x74) 0x09 c))
