-- What the literals of a query stand for: quoted texts, whole numbers with their range, number literals.
use Rattle.std.specs.Prelude.{ℕ, ◌+◌, ◌-◌, ◌*◌, ◌^◌, List, [], ◌∷◌, ◌++◌, Bool, true, false, cond, ◌&&◌, eqb, leb, ltb, ℤ, pos, negsuc, neg_ℤ, ◌-ℤ◌, nat_abs, length}
use Rattle.std.specs.Float.{binary64}
use Rattle.std.specs.Float.Ieee.{round, to_bits}
use Rattle.definition.specs.Limits.{max_int, literal_limit, min_exponent, max_exponent}
use Rattle.definition.specs.Utf8.{encode}
use Rattle.definition.specs.Tables.{is_finite}
use Rattle.definition.specs.Lexical.{Natural, Digits, Int, Whole, Fraction, Exponent, Number, Escape, Char, Quote, Text, hex4_value, own_byte, other_byte}
use Rattle.definition.specs.Lexical.Int.{zero_int, plain_int, minus_int}
use Rattle.definition.specs.Lexical.Whole.{int_whole, minus_zero}
use Rattle.definition.specs.Lexical.Fraction.{no_fraction, fraction}
use Rattle.definition.specs.Lexical.Sign.{no_sign, plus_sign, minus_sign}
use Rattle.definition.specs.Lexical.Exponent.{no_exponent, exponent}
use Rattle.definition.specs.Lexical.Escape.{short, unicode, pair}
use Rattle.definition.specs.Lexical.Char.{plain, other_quote, own_quote, escape}

-- ---- quoted texts (RFC 9535, 2.3.1.2)

-- the code point that a letter behind a backslash names: b f n r t; `/` and `\` name themselves
unfoldable pub short_value : ℕ → ℕ
short_value c =
    cond (eqb c 0x62) 0x08
    (cond (eqb c 0x66) 0x0C
    (cond (eqb c 0x6E) 0x0A
    (cond (eqb c 0x72) 0x0D
    (cond (eqb c 0x74) 0x09 c))))

-- "each `\uXXXX` stands for itself unless it begins a surrogate pair"
unfoldable pub escape_value : Escape → ℕ
escape_value (short c h) = short_value c
escape_value (unicode h g) = hex4_value h
escape_value (pair h l g k) = 0x10000 + ((hex4_value h - 0xD800) * 1024 + (hex4_value l - 0xDC00))

unfoldable pub char_bytes : Quote → Char → List ℕ
char_bytes q (plain c h) = encode c
char_bytes q other_quote = other_byte q ∷ []
char_bytes q own_quote = own_byte q ∷ []
char_bytes q (escape e) = encode (escape_value e)

unfoldable pub chars_bytes : Quote → List Char → List ℕ
chars_bytes q [] = []
chars_bytes q (c ∷ cs) = char_bytes q c ++ chars_bytes q cs

-- the bytes that a quoted text stands for
unfoldable pub text_bytes : Text → List ℕ
text_bytes t = chars_bytes t.quote t.chars

-- ---- digits

-- the number that decimal digits write, read from the left behind a number n
unfoldable pub decimal_from : ℕ → List ℕ → ℕ
decimal_from n [] = n
decimal_from n (d ∷ ds) = decimal_from (n * 10 + (d - 0x30)) ds

abbrev pub decimal : List ℕ → ℕ
decimal ds = decimal_from 0 ds

abbrev pub natural_digits : Natural → List ℕ
natural_digits n = n.first ∷ n.more

abbrev pub digits_of : Digits → List ℕ
digits_of d = d.first ∷ d.more

-- ---- indices, slice bounds and steps

unfoldable pub int_value : Int → ℤ
int_value zero_int = pos 0
int_value (plain_int n) = pos (decimal (natural_digits n))
int_value (minus_int n) = neg_ℤ (pos (decimal (natural_digits n)))

-- refusal 4: "an index, slice bound or step outside -(2^53-1)..2^53-1"
abbrev pub in_range : ℤ → Bool
in_range z = leb (nat_abs z) max_int

-- ---- number literals

-- What a number literal stands for: an integer, a float by its bits, or a float beyond the range of literals.
pub data Numeral : Type 0 where
  integer : ℤ → Numeral
  float : ℕ → Numeral
  beyond : Numeral

unfoldable pub whole_digits : Whole → List ℕ
whole_digits (int_whole zero_int) = 0x30 ∷ []
whole_digits (int_whole (plain_int n)) = natural_digits n
whole_digits (int_whole (minus_int n)) = natural_digits n
whole_digits minus_zero = 0x30 ∷ []

-- "with the written sign": true behind a minus
unfoldable pub is_minus : Whole → Bool
is_minus (int_whole zero_int) = false
is_minus (int_whole (plain_int n)) = false
is_minus (int_whole (minus_int n)) = true
is_minus minus_zero = true

unfoldable pub exponent_value : Exponent → ℤ
exponent_value no_exponent = pos 0
exponent_value (exponent e h no_sign d) = pos (decimal (digits_of d))
exponent_value (exponent e h plus_sign d) = pos (decimal (digits_of d))
exponent_value (exponent e h minus_sign d) = neg_ℤ (pos (decimal (digits_of d)))

-- the float nearest to N times ten to E, ties to even: one rounding of an exact fraction, by the toolchain's `round`.
-- That this is the nearest float over whole numbers, and the even one at a tie, is a law of the crate `number_rounding`.
unfoldable pub nearest : Bool → ℕ → ℤ → ℕ
nearest s n (pos e) = to_bits binary64 (round binary64 s (n * 10 ^ e) 1)
nearest s n (negsuc e) = to_bits binary64 (round binary64 s n (10 ^ (e + 1)))

-- "E is in -342..308": negsuc e is -(e + 1)
abbrev pub exponent_right : ℤ → Bool
exponent_right (pos e) = leb e max_exponent
exponent_right (negsuc e) = ltb e min_exponent

-- document 02, W7: "every float literal whose N is below ten to the 19 and whose E is in -342..308", as they are written,
-- and "what rounds past the largest float stays refused": there the bits of `nearest` are no finite float's
unfoldable pub is_inside : Bool → ℕ → ℤ → Bool
is_inside s n e = ltb n literal_limit && exponent_right e && is_finite (nearest s n e)

unfoldable pub float_by : Bool → Bool → ℕ → ℤ → Numeral
float_by true s n e = float (nearest s n e)
float_by false s n e = beyond

unfoldable pub float_numeral : Bool → ℕ → ℤ → Numeral
float_numeral s n e = float_by (is_inside s n e) s n e

-- without `.`, `e` and `E`: "inside i64: Int", which makes "-0" Int 0, and otherwise a float
unfoldable pub whole_numeral : Bool → ℕ → Numeral
whole_numeral false n = cond (ltb n (2 ^ 63)) (integer (pos n)) (float_numeral false n (pos 0))
whole_numeral true n = cond (leb n (2 ^ 63)) (integer (neg_ℤ (pos n))) (float_numeral true n (pos 0))

-- "let N be all digits before the exponent as one whole number and E the written exponent less the count of fraction digits"
unfoldable pub numeral_of : Bool → List ℕ → Fraction → Exponent → Numeral
numeral_of s ds no_fraction no_exponent = whole_numeral s (decimal ds)
numeral_of s ds no_fraction (exponent e h g d) = float_numeral s (decimal ds) (exponent_value (exponent e h g d))
numeral_of s ds (fraction f) x = float_numeral s (decimal (ds ++ digits_of f)) (exponent_value x -ℤ pos (length (digits_of f)))

unfoldable pub numeral : Number → Numeral
numeral n = numeral_of (is_minus n.whole) (whole_digits n.whole) n.frac n.exp
