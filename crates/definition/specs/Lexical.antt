-- The parts of RFC 9535's grammar that do not nest: blanks, names, whole numbers, number literals, quoted texts, slices.
-- Each is a tree that keeps all that was written, with a function that spells it, followed by the bytes r.
-- A leaf carries the proof that its characters are of their class, so every tree is a text of the grammar.
use Rattle.std.specs.Prelude.{ℕ, ◌+◌, ◌*◌, ◌-◌, ◌≡◌, List, [], ◌∷◌, ◌++◌, Bool, true, false, cond, ◌&&◌, ◌||◌, eqb, leb}
use Rattle.definition.specs.Bytes.{every, within}
use Rattle.definition.specs.Utf8.{encode, encode_all}

-- ---- classes of characters

-- B = %x20 / %x09 / %x0A / %x0D
abbrev pub is_blank : ℕ → Bool
is_blank c = eqb c 0x20 || (eqb c 0x09 || (eqb c 0x0A || eqb c 0x0D))

abbrev pub is_digit : ℕ → Bool
is_digit c = within 0x30 0x39 c

abbrev pub is_digit1 : ℕ → Bool
is_digit1 c = within 0x31 0x39 c

abbrev pub is_lcalpha : ℕ → Bool
is_lcalpha c = within 0x61 0x7A c

abbrev pub is_alpha : ℕ → Bool
is_alpha c = within 0x41 0x5A c || is_lcalpha c

-- name-first = ALPHA / "_" / %x80-D7FF / %xE000-10FFFF
abbrev pub is_name_first : ℕ → Bool
is_name_first c = is_alpha c || (eqb c 0x5F || (within 0x80 0xD7FF c || within 0xE000 0x10FFFF c))

-- name-char = name-first / DIGIT
abbrev pub is_name_char : ℕ → Bool
is_name_char c = is_name_first c || is_digit c

-- what may follow in a function-name: LCALPHA / "_" / DIGIT
abbrev pub is_function_char : ℕ → Bool
is_function_char c = is_lcalpha c || (eqb c 0x5F || is_digit c)

-- unescaped = %x20-21 / %x23-26 / %x28-5B / %x5D-D7FF / %xE000-10FFFF
abbrev pub is_unescaped : ℕ → Bool
is_unescaped c = within 0x20 0x21 c || (within 0x23 0x26 c || (within 0x28 0x5B c || (within 0x5D 0xD7FF c || within 0xE000 0x10FFFF c)))

-- HEXDIG, in either case
abbrev pub is_hex : ℕ → Bool
is_hex c = is_digit c || (within 0x41 0x46 c || within 0x61 0x66 c)

-- "e", in either case
abbrev pub is_e : ℕ → Bool
is_e c = eqb c 0x65 || eqb c 0x45

-- the escapable characters that one letter names: b f n r t / \
abbrev pub is_short : ℕ → Bool
is_short c = eqb c 0x62 || (eqb c 0x66 || (eqb c 0x6E || (eqb c 0x72 || (eqb c 0x74 || (eqb c 0x2F || eqb c 0x5C)))))

-- ---- blanks and names

-- S = *B
pub record Blanks : Type 0 where
  pub bytes : List ℕ
  pub good : every is_blank bytes ≡ true

abbrev pub spell_blanks : Blanks → List ℕ → List ℕ
spell_blanks b r = b.bytes ++ r

-- member-name-shorthand = name-first *name-char, as code points
pub record Name : Type 0 where
  pub first : ℕ
  pub more : List ℕ
  pub is_first : is_name_first first ≡ true
  pub are_more : every is_name_char more ≡ true

-- the UTF-8 bytes of a name, which are also the key that it selects
abbrev pub name_bytes : Name → List ℕ
name_bytes n = encode n.first ++ encode_all n.more

abbrev pub spell_name : Name → List ℕ → List ℕ
spell_name n r = name_bytes n ++ r

-- function-name = LCALPHA *( LCALPHA / "_" / DIGIT )
pub record FunctionName : Type 0 where
  pub first : ℕ
  pub more : List ℕ
  pub is_first : is_lcalpha first ≡ true
  pub are_more : every is_function_char more ≡ true

abbrev pub function_bytes : FunctionName → List ℕ
function_bytes n = n.first ∷ n.more

abbrev pub spell_function_name : FunctionName → List ℕ → List ℕ
spell_function_name n r = n.first ∷ (n.more ++ r)

-- ---- whole numbers

-- DIGIT1 *DIGIT
pub record Natural : Type 0 where
  pub first : ℕ
  pub more : List ℕ
  pub is_first : is_digit1 first ≡ true
  pub are_more : every is_digit more ≡ true

-- 1*DIGIT
pub record Digits : Type 0 where
  pub first : ℕ
  pub more : List ℕ
  pub is_first : is_digit first ≡ true
  pub are_more : every is_digit more ≡ true

-- int = "0" / [ "-" ] DIGIT1 *DIGIT
pub data Int : Type 0 where
  zero_int : Int
  plain_int : Natural → Int
  minus_int : Natural → Int

abbrev pub spell_natural : Natural → List ℕ → List ℕ
spell_natural n r = n.first ∷ (n.more ++ r)

abbrev pub spell_digits : Digits → List ℕ → List ℕ
spell_digits d r = d.first ∷ (d.more ++ r)

abbrev pub spell_int : Int → List ℕ → List ℕ
spell_int zero_int r = 0x30 ∷ r
spell_int (plain_int n) r = spell_natural n r
spell_int (minus_int n) r = 0x2D ∷ spell_natural n r

-- ---- number literals

-- int / "-0"
pub data Whole : Type 0 where
  int_whole : Int → Whole
  minus_zero : Whole

-- [ frac ], frac = "." 1*DIGIT
pub data Fraction : Type 0 where
  no_fraction : Fraction
  fraction : Digits → Fraction

pub data Sign : Type 0 where
  no_sign : Sign
  plus_sign : Sign
  minus_sign : Sign

-- [ exp ], exp = "e" [ "-" / "+" ] 1*DIGIT, the letter in either case
pub data Exponent : Type 0 where
  no_exponent : Exponent
  exponent : (e : ℕ) → is_e e ≡ true → Sign → Digits → Exponent

-- number = ( int / "-0" ) [ frac ] [ exp ]
pub record Number : Type 0 where
  pub whole : Whole
  pub frac : Fraction
  pub exp : Exponent

abbrev pub spell_whole : Whole → List ℕ → List ℕ
spell_whole (int_whole i) r = spell_int i r
spell_whole minus_zero r = 0x2D ∷ 0x30 ∷ r

abbrev pub spell_fraction : Fraction → List ℕ → List ℕ
spell_fraction no_fraction r = r
spell_fraction (fraction d) r = 0x2E ∷ spell_digits d r

abbrev pub spell_sign : Sign → List ℕ → List ℕ
spell_sign no_sign r = r
spell_sign plus_sign r = 0x2B ∷ r
spell_sign minus_sign r = 0x2D ∷ r

abbrev pub spell_exponent : Exponent → List ℕ → List ℕ
spell_exponent no_exponent r = r
spell_exponent (exponent e h s d) r = e ∷ spell_sign s (spell_digits d r)

abbrev pub spell_number : Number → List ℕ → List ℕ
spell_number n r = spell_whole n.whole (spell_fraction n.frac (spell_exponent n.exp r))

-- ---- quoted texts

-- 4HEXDIG
pub record Hex4 : Type 0 where
  pub a : ℕ
  pub b : ℕ
  pub c : ℕ
  pub d : ℕ
  pub good : (is_hex a && (is_hex b && (is_hex c && is_hex d))) ≡ true

abbrev pub hex_value : ℕ → ℕ
hex_value c = cond (is_digit c) (c - 0x30) (cond (leb 0x61 c) (c - 0x57) (c - 0x37))

abbrev pub hex4_value : Hex4 → ℕ
hex4_value h = ((hex_value h.a * 16 + hex_value h.b) * 16 + hex_value h.c) * 16 + hex_value h.d

-- high-surrogate: "D" ( "8" / "9" / "A" / "B" ) 2HEXDIG; low-surrogate: "D" ( "C" / "D" / "E" / "F" ) 2HEXDIG
abbrev pub is_high : ℕ → Bool
is_high v = within 0xD800 0xDBFF v

abbrev pub is_low : ℕ → Bool
is_low v = within 0xDC00 0xDFFF v

-- escapable, with hexchar = non-surrogate / high-surrogate %x5C %x75 low-surrogate
pub data Escape : Type 0 where
  short : (c : ℕ) → is_short c ≡ true → Escape
  unicode : (h : Hex4) → (is_high (hex4_value h) || is_low (hex4_value h)) ≡ false → Escape
  pair : (h l : Hex4) → is_high (hex4_value h) ≡ true → is_low (hex4_value l) ≡ true → Escape

-- double-quoted and single-quoted: unescaped, the other quote, the text's own quote behind a backslash, or an escape
pub data Char : Type 0 where
  plain : (c : ℕ) → is_unescaped c ≡ true → Char
  other_quote : Char
  own_quote : Char
  escape : Escape → Char

pub data Quote : Type 0 where
  double : Quote
  single : Quote

-- string-literal = %x22 *double-quoted %x22 / %x27 *single-quoted %x27
pub record Text : Type 0 where
  pub quote : Quote
  pub chars : List Char

abbrev pub own_byte : Quote → ℕ
own_byte double = 0x22
own_byte single = 0x27

abbrev pub other_byte : Quote → ℕ
other_byte double = 0x27
other_byte single = 0x22

abbrev pub spell_hex4 : Hex4 → List ℕ → List ℕ
spell_hex4 h r = h.a ∷ h.b ∷ h.c ∷ h.d ∷ r

abbrev pub spell_escape : Escape → List ℕ → List ℕ
spell_escape (short c h) r = 0x5C ∷ c ∷ r
spell_escape (unicode h g) r = 0x5C ∷ 0x75 ∷ spell_hex4 h r
spell_escape (pair h l g k) r = 0x5C ∷ 0x75 ∷ spell_hex4 h (0x5C ∷ 0x75 ∷ spell_hex4 l r)

abbrev pub spell_char : Quote → Char → List ℕ → List ℕ
spell_char q (plain c h) r = encode c ++ r
spell_char q other_quote r = other_byte q ∷ r
spell_char q own_quote r = 0x5C ∷ own_byte q ∷ r
spell_char q (escape e) r = spell_escape e r

abbrev pub spell_chars : Quote → List Char → List ℕ → List ℕ
spell_chars q [] r = r
spell_chars q (c ∷ cs) r = spell_char q c (spell_chars q cs r)

abbrev pub spell_text : Text → List ℕ → List ℕ
spell_text t r = own_byte t.quote ∷ spell_chars t.quote t.chars (own_byte t.quote ∷ r)

-- ---- slices

-- [ start S ] and [ end S ]
pub data Bound : Type 0 where
  no_bound : Bound
  bound : Int → Blanks → Bound

-- [ ":" [ S step ] ]
pub data Step : Type 0 where
  no_step : Step
  colon : Step
  step : Blanks → Int → Step

-- slice-selector = [ start S ] ":" S [ end S ] [ ":" [ S step ] ]
pub record Slice : Type 0 where
  pub start : Bound
  pub blanks : Blanks
  pub stop : Bound
  pub by : Step

abbrev pub spell_bound : Bound → List ℕ → List ℕ
spell_bound no_bound r = r
spell_bound (bound i b) r = spell_int i (spell_blanks b r)

abbrev pub spell_step : Step → List ℕ → List ℕ
spell_step no_step r = r
spell_step colon r = 0x3A ∷ r
spell_step (step b i) r = 0x3A ∷ spell_blanks b (spell_int i r)

abbrev pub spell_slice : Slice → List ℕ → List ℕ
spell_slice s r = spell_bound s.start (0x3A ∷ spell_blanks s.blanks (spell_bound s.stop (spell_step s.by r)))
