-- The literals of a query are right where they have a form: whole numbers in their ranges, names and texts in UTF-8, floats finite and of 64 bits.
use Rattle.std.specs.Prelude.{ℕ, zero, suc, ◌+◌, ◌-◌, ◌*◌, ◌^◌, ◌≤◌, ◌<◌, ◌≡◌, refl, ◌⊎◌, List, [], ◌∷◌, ◌++◌, Bool, true, false, cond, ◌&&◌, ◌||◌, eqb, leb, ltb, ℤ, pos, neg_ℤ}
use Rattle.std.proofs.Common.{arith, sym, ◌∙◌, subst, inl, inr, ⊎_elim, true≢false, lit<, ltb-true, ltb-false, leb-false, eqb-true, lt-ltb}
use Rattle.std.proofs.Math.Bool.{and-eq-true_iff}
use Rattle.std.specs.Float.{binary64}
use Rattle.std.specs.Float.Ieee.{round}
use Rattle.std.specs.Float.Ieee.Bits.{to_bits-lt}
use Rattle.std.specs.Float.Ieee.Fits.{round-fits}
use Rattle.definition.specs.Bytes.{every, within}
use Rattle.definition.specs.Utf8.{is_utf8, is_utf8_from, encode_all, is_scalar}
use Rattle.definition.specs.Lexical.{Name, Hex4, Escape, Char, Quote, Text, Number, Fraction, Exponent, is_hex, is_digit, is_short, is_high, is_low, hex_value, hex4_value, name_bytes, own_byte, other_byte}
use Rattle.definition.specs.Lexical.Fraction.{no_fraction, fraction}
use Rattle.definition.specs.Lexical.Exponent.{no_exponent, exponent}
use Rattle.definition.specs.Lexical.Escape.{short, unicode, pair}
use Rattle.definition.specs.Lexical.Char.{plain, other_quote, own_quote, escape}
use Rattle.definition.specs.Literals.{short_value, escape_value, char_bytes, chars_bytes, text_bytes, Numeral, nearest, exponent_right, is_inside, float_by, float_numeral, whole_numeral, numeral_of, numeral}
use Rattle.definition.specs.Limits.{literal_limit}
use Rattle.definition.specs.Tables.{is_finite}
use Rattle.definition.specs.QueryForms.{inside_i64}
use Rattle.basics.specs.Bools.{and_both, or_cases, or_left, or_right}
use Rattle.utf8_laws.specs.Texts.{name_scalars as scalars, other_ascii, own_ascii}
use Rattle.utf8_laws.specs.Bytes.{by_test, inside, inside_low, inside_high}
use Rattle.utf8_laws.specs.Encode.{utf8_ascii, utf8_encode, encode_all_utf8}
use Rattle.utf8_laws.specs.Decode.{range_scalar}
use Rattle.utf8_laws.specs.Names.{name_scalar, unescaped_scalar, first_char}
use Rattle.number_rounding.specs.Decimal.{above, below, nearest_is}

-- ---- names

-- a name is UTF-8
pub name_utf8 : (n : Name) → is_utf8 (name_bytes n) ≡ true
unfolding encode_all
name_utf8 n =
    encode_all_utf8 (n.first ∷ n.more)
    (and_both (is_scalar n.first) (every is_scalar n.more) (name_scalar n.first (first_char n.first n.is_first)) (scalars n.more n.are_more))

-- ---- quoted texts

-- a hexadecimal digit is below 16
hex_low : (c : ℕ) → is_hex c ≡ true → hex_value c < 16
hex_low c e = by_test (is_digit c) digit other
  where
    digit : is_digit c ≡ true → hex_value c < 16
    digit d = rw d (omega (arith, inside_high 0x30 0x39 c d))

    letter : (within 0x41 0x46 c ≡ true) ⊎ (within 0x61 0x66 c ≡ true) → cond (leb 0x61 c) (c - 0x57) (c - 0x37) < 16
    letter (inl h) = by_test (leb 0x61 c) (λ y. rw y (omega (arith, inside_high 0x41 0x46 c h))) (λ n. rw n (omega (arith, inside_high 0x41 0x46 c h)))
    letter (inr h) =
        by_test (leb 0x61 c) (λ y. rw y (omega (arith, inside_high 0x61 0x66 c h))) (λ n. absurd (omega (arith, leb-false 0x61 c n, inside_low 0x61 0x66 c h)))

    other : is_digit c ≡ false → hex_value c < 16
    other d = rw d (letter (or_cases (within 0x41 0x46 c) (within 0x61 0x66 c) (rw d at e)))

-- four of them are below 10000
hex4_low : (h : Hex4) → hex4_value h < 0x10000
hex4_low h =
    let a = (and-eq-true_iff (is_hex h.a) _).0 h.good in
    let b = (and-eq-true_iff (is_hex h.b) _).0 a.1 in
    let c = (and-eq-true_iff (is_hex h.c) (is_hex h.d)).0 b.1 in
    omega (arith, hex_low h.a a.0, hex_low h.b b.0, hex_low h.c c.0, hex_low h.d c.1)

-- what is no surrogate is a scalar value
no_surrogate : (v : ℕ) → v < 0x10000 → (is_high v || is_low v) ≡ false → is_scalar v ≡ true
no_surrogate v l e = range_scalar v (by_test (ltb v 0xD800) (λ y. inl (ltb-true v 0xD800 y)) (λ n. by_test (ltb v 0xE000) (λ y. absurd (some (ltb-false v 0xD800 n) (ltb-true v 0xE000 y))) (λ m. inr (ltb-false v 0xE000 m, omega arith))))
  where
    some : 0xD800 ≤ v → v < 0xE000 → ⊥
    some a b =
        by_test (ltb v 0xDC00)
        (λ y. true≢false (sym (inside 0xD800 0xDBFF v a (omega (arith, ltb-true v 0xDC00 y))) ∙ or_left (is_high v) (is_low v) e))
        (λ n. true≢false (sym (inside 0xDC00 0xDFFF v (ltb-false v 0xDC00 n) (omega arith)) ∙ or_right (is_high v) (is_low v) e))

-- a letter behind a backslash names an ASCII character
short_low : (c : ℕ) → is_short c ≡ true → short_value c < 0x80
unfolding short_value
short_low c e =
    by_test (eqb c 0x62) (λ y. rw y (lit< tt)) (λ n1.
    by_test (eqb c 0x66) (λ y. rw (n1, y) (lit< tt)) (λ n2.
    by_test (eqb c 0x6E) (λ y. rw (n1, n2, y) (lit< tt)) (λ n3.
    by_test (eqb c 0x72) (λ y. rw (n1, n2, n3, y) (lit< tt)) (λ n4.
    by_test (eqb c 0x74) (λ y. rw (n1, n2, n3, n4, y) (lit< tt)) (λ n5.
    rw (n1, n2, n3, n4, n5) (⊎_elim (λ h. omega (arith, eqb-true c 0x2F h)) (λ h. omega (arith, eqb-true c 0x5C h)) (or_cases (eqb c 0x2F) (eqb c 0x5C) (rw (n1, n2, n3, n4, n5) at e))))))))

-- every escape names a scalar value
escape_scalar : (e : Escape) → is_scalar (escape_value e) ≡ true
unfolding escape_value
escape_scalar (short c h) = range_scalar (short_value c) (inl (omega (arith, short_low c h)))
escape_scalar (unicode h g) = no_surrogate (hex4_value h) (hex4_low h) g
escape_scalar (pair h l g k) =
    range_scalar (0x10000 + ((hex4_value h - 0xD800) * 1024 + (hex4_value l - 0xDC00)))
    (inr (omega (arith, inside_high 0xD800 0xDBFF (hex4_value h) g, inside_high 0xDC00 0xDFFF (hex4_value l) k)))

-- a character leaves the question whether a text is UTF-8 to what follows
char_utf8 : (q : Quote) (c : Char) (r : List ℕ) → is_utf8 (char_bytes q c ++ r) ≡ is_utf8 r
unfolding char_bytes
char_utf8 q (plain c h) r = utf8_encode c r (unescaped_scalar c h)
char_utf8 q other_quote r = utf8_ascii (other_byte q) r (other_ascii q)
char_utf8 q own_quote r = utf8_ascii (own_byte q) r (own_ascii q)
char_utf8 q (escape e) r = utf8_encode (escape_value e) r (escape_scalar e)

pub nothing_utf8 : is_utf8 [] ≡ true
unfolding is_utf8 is_utf8_from
nothing_utf8 = refl

-- so a quoted text stands for UTF-8
chars_utf8 : (q : Quote) (cs : List Char) → is_utf8 (chars_bytes q cs) ≡ true
unfolding chars_bytes
chars_utf8 q [] = nothing_utf8
chars_utf8 q (c ∷ cs) = char_utf8 q c (chars_bytes q cs) ∙ chars_utf8 q cs

pub text_utf8 : (t : Text) → is_utf8 (text_bytes t) ≡ true
unfolding text_bytes
text_utf8 t = chars_utf8 t.quote t.chars

-- ---- floats

-- a float within the range of literals is finite and has 64 bits
pub float_right : (s : Bool) (n : ℕ) (e : ℤ) → is_inside s n e ≡ true → (ltb (nearest s n e) (2 ^ 64) && is_finite (nearest s n e)) ≡ true
unfolding is_inside
float_right s n e t =
    and_both (ltb (nearest s n e) (2 ^ 64)) (is_finite (nearest s n e))
    (lt-ltb (nearest s n e) (2 ^ 64) (subst (λ (b : ℕ). b < 2 ^ 64) (sym (nearest_is s n e)) (to_bits-lt binary64 (round binary64 s (above n e) (below e)) (round-fits binary64 s (above n e) (below e)))))
    ((and-eq-true_iff (ltb n literal_limit && exponent_right e) (is_finite (nearest s n e))).0 t).1

-- ---- number literals

-- what a number literal stands for is inside i64, or finite and of 64 bits, or has no form
abbrev pub RightNumeral : Numeral → Type 0
RightNumeral (Numeral.integer z) = inside_i64 z ≡ true
RightNumeral (Numeral.float b) = (ltb b (2 ^ 64) && is_finite b) ≡ true
RightNumeral Numeral.beyond = Unit {0}

-- a literal with a point or an exponent, and a whole number outside i64
float_numeral_lem : (s : Bool) (n : ℕ) (e : ℤ) → RightNumeral (float_numeral s n e)
unfolding float_numeral float_by
float_numeral_lem s n e = by (is_inside s n e) refl
  where
    by : (b : Bool) → is_inside s n e ≡ b → RightNumeral (float_by b s n e)
    by true t = float_right s n e t
    by false t = tt

-- the negative of a number up to 2^63 is inside i64
minus_inside : (n : ℕ) → leb n (2 ^ 63) ≡ true → inside_i64 (neg_ℤ (pos n)) ≡ true
unfolding inside_i64
minus_inside zero e = refl
minus_inside (suc n) e = e

-- a whole number
whole_numeral_lem : (s : Bool) (n : ℕ) → RightNumeral (whole_numeral s n)
unfolding whole_numeral inside_i64
whole_numeral_lem false n = by (ltb n (2 ^ 63)) refl
  where
    by : (b : Bool) → ltb n (2 ^ 63) ≡ b → RightNumeral (cond b (Numeral.integer (pos n)) (float_numeral false n (pos 0)))
    by true e = e
    by false e = float_numeral_lem false n (pos 0)
whole_numeral_lem true n = by (leb n (2 ^ 63)) refl
  where
    by : (b : Bool) → leb n (2 ^ 63) ≡ b → RightNumeral (cond b (Numeral.integer (neg_ℤ (pos n))) (float_numeral true n (pos 0)))
    by true e = minus_inside n e
    by false e = float_numeral_lem true n (pos 0)

-- every number literal
numeral_of_lem : (s : Bool) (ds : List ℕ) (f : Fraction) (x : Exponent) → RightNumeral (numeral_of s ds f x)
unfolding numeral_of
numeral_of_lem s ds no_fraction no_exponent = whole_numeral_lem s _
numeral_of_lem s ds no_fraction (exponent e h g d) = float_numeral_lem s _ _
numeral_of_lem s ds (fraction f) x = float_numeral_lem s _ _

pub numeral_right : (n : Number) → RightNumeral (numeral n)
unfolding numeral
numeral_right n = numeral_of_lem _ _ n.frac n.exp
