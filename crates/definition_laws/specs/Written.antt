-- What can be written in a query: every UTF-8 text in quotes, every whole number in decimal, and so every literal but the floats that no number
-- literal stands for. Assumes nothing.
use Rattle.std.specs.Prelude.{ℕ, zero, suc, ◌+◌, ◌-◌, ◌*◌, ◌/◌, ◌%◌, ◌^◌, ◌≤◌, ◌<◌, ◌≡◌, refl, List, [], ◌∷◌, ◌++◌, Bool, true, false, cond, not, ◌&&◌, ◌||◌, eqb, ltb, ℤ, pos, negsuc, neg_ℤ}
use Rattle.std.proofs.Common.{sym, ap, ap₂, subst, ◌∙◌, true≢false, arith, ltb-true, ltb-false, le-leb, eqb-true}
use Rattle.std.proofs.lemmas.Bool.{not-true}
use Rattle.definition.specs.Bytes.{every}
use Rattle.definition.specs.Utf8.{is_scalar, encode, encode_all, is_utf8}
use Rattle.definition.specs.Lexical.{Natural, Int, Number, Char, Text, is_digit, is_unescaped, is_hex, is_high, is_low, hex_value}
use Rattle.definition.specs.Lexical.Int.{zero_int, plain_int, minus_int}
use Rattle.definition.specs.Lexical.Whole.{int_whole}
use Rattle.definition.specs.Lexical.Fraction.{no_fraction}
use Rattle.definition.specs.Lexical.Exponent.{no_exponent}
use Rattle.definition.specs.Lexical.Escape.{unicode}
use Rattle.definition.specs.Lexical.Char.{plain, escape}
use Rattle.definition.specs.Lexical.Quote.{double}
use Rattle.definition.specs.Literals.{Numeral, escape_value, char_bytes, chars_bytes, text_bytes, decimal_from, decimal, natural_digits, int_value, whole_digits, is_minus, whole_numeral, numeral_of, numeral}
use Rattle.definition.specs.QueryForms.{inside_i64}
use Rattle.basics.specs.Bools.{and_left, and_right}
use Rattle.utf8_laws.specs.Bytes.{inside}
use Rattle.utf8_laws.specs.Decode.{decode}
use Rattle.utf8_laws.specs.Names.{unescaped_wide}

-- ---- tests

-- a test that holds of every number below n
abbrev all_below : ℕ → (ℕ → Bool) → Bool
all_below zero p = true
all_below (suc n) p = p n && all_below n p

all_below_lem : (n : ℕ) (p : ℕ → Bool) → all_below n p ≡ true → (k : ℕ) → k < n → p k ≡ true
all_below_lem zero p h k l = absurd (omega arith)
all_below_lem (suc n) p h k l = go (ltb k n) refl (all_below_lem n p (and_right (p n) (all_below n p) h) k)
  where
    go : (t : Bool) → ltb k n ≡ t → (k < n → p k ≡ true) → p k ≡ true
    go true e r = r (ltb-true k n e)
    go false e r = let b = ltb-false k n e in let z : n ≡ k = omega arith in subst (λ (m : ℕ). p m ≡ true) z (and_left (p n) (all_below n p) h)

-- ---- texts: a character is written as itself, or where that is not allowed as `\u00XX`

abbrev hex_digit : ℕ → ℕ
hex_digit n = cond (ltb n 10) (0x30 + n) (0x57 + n)

-- whether `\u00XX` stands for c
abbrev are_digits : ℕ → Bool
are_digits c = is_hex 0x30 && (is_hex 0x30 && (is_hex (hex_digit (c / 16)) && is_hex (hex_digit (c % 16))))

abbrev value_of : ℕ → ℕ
value_of c = ((hex_value 0x30 * 16 + hex_value 0x30) * 16 + hex_value (hex_digit (c / 16))) * 16 + hex_value (hex_digit (c % 16))

abbrev is_escaped : ℕ → Bool
is_escaped c = are_digits c && (not (is_high (value_of c) || is_low (value_of c)) && eqb (value_of c) c)

ascii_escaped : all_below 0x80 is_escaped ≡ true
ascii_escaped = refl

escape_written : (c : ℕ) → c < 0x80 → (x : Char) × (char_bytes double x ≡ encode c)
unfolding char_bytes escape_value
escape_written c l =
    let h = all_below_lem 0x80 is_escaped ascii_escaped c l in
    let d = are_digits c in
    let u = not (is_high (value_of c) || is_low (value_of c)) in
    let v = eqb (value_of c) c in
    let r = and_right d (u && v) h in (
      escape (unicode (record { a = 0x30; b = 0x30; c = hex_digit (c / 16); d = hex_digit (c % 16); good = and_left d (u && v) h }) (not-true (is_high (value_of c) || is_low (value_of c)) (and_left u v r))),
      ap encode (eqb-true (value_of c) c (and_right u v r)),
    )

char_written : (c : ℕ) → is_scalar c ≡ true → (x : Char) × (char_bytes double x ≡ encode c)
unfolding char_bytes
char_written c h = go (is_unescaped c) refl (ltb c 0x80) refl
  where
    go : (t : Bool) → is_unescaped c ≡ t → (u : Bool) → ltb c 0x80 ≡ u → (x : Char) × (char_bytes double x ≡ encode c)
    go true e u f = (plain c e, refl)
    go false e true f = escape_written c (ltb-true c 0x80 f)
    go false e false f = absurd (true≢false (sym (unescaped_wide c h (ltb-false c 0x80 f)) ∙ e))

chars_written : (cs : List ℕ) → every is_scalar cs ≡ true → (xs : List Char) × (chars_bytes double xs ≡ encode_all cs)
unfolding chars_bytes encode_all
chars_written [] h = ([], refl)
chars_written (c ∷ cs) h =
    let x = char_written c (and_left (is_scalar c) (every is_scalar cs) h) in
    let xs = chars_written cs (and_right (is_scalar c) (every is_scalar cs) h) in
    (x.0 ∷ xs.0, ap₂ (λ s t. s ++ t) x.1 xs.1)

pub text_written : (s : List ℕ) → is_utf8 s ≡ true → (t : Text) × (text_bytes t ≡ s)
unfolding text_bytes
text_written s h =
    let d = decode s h in
    let w = chars_written d.0 d.1 in
    (record { quote = double; chars = w.0 }, w.1 ∙ d.2)

-- ---- whole numbers

-- a further digit
decimal_more : (n : ℕ) (ds : List ℕ) (d : ℕ) → decimal_from n (ds ++ d ∷ []) ≡ decimal_from n ds * 10 + (d - 0x30)
unfolding decimal_from
decimal_more n [] d = refl
decimal_more n (e ∷ ds) d = decimal_more (n * 10 + (e - 0x30)) ds d

digits_more : (ds : List ℕ) (d : ℕ) → every is_digit ds ≡ true → is_digit d ≡ true → every is_digit (ds ++ d ∷ []) ≡ true
digits_more [] d h k = rw k refl
digits_more (e ∷ ds) d h k = rw (and_left (is_digit e) (every is_digit ds) h) (digits_more ds d (and_right (is_digit e) (every is_digit ds) h) k)

-- a number above 0, by its digits; f bounds it
natural_written : (f n : ℕ) → n ≤ f → 0 < n → (d : Natural) × (decimal (natural_digits d) ≡ n)
unfolding decimal_from
natural_written zero n a b = absurd (omega arith)
natural_written (suc f) n a b = go (ltb n 10) refl (natural_written f (n / 10))
  where
    go : (t : Bool) → ltb n 10 ≡ t → (n / 10 ≤ f → 0 < n / 10 → (d : Natural) × (decimal (natural_digits d) ≡ n / 10)) → (d : Natural) × (decimal (natural_digits d) ≡ n)
    go true e r = let l = ltb-true n 10 e in (record { first = 0x30 + n; more = []; is_first = inside 0x31 0x39 (0x30 + n) (omega arith) (omega arith); are_more = refl }, omega arith)
    go false e r =
        let l = ltb-false n 10 e in
        let w = r (omega arith) (omega arith) in
        let m = w.0 in
        let d = 0x30 + n % 10 in
        let k = inside 0x30 0x39 d (omega arith) (omega arith) in
        let h : decimal (natural_digits m) ≡ n / 10 = w.1 in
        let s : decimal (natural_digits m) * 10 + (d - 0x30) ≡ n = omega (arith, h) in
        (record { first = m.first; more = m.more ++ d ∷ []; is_first = m.is_first; are_more = digits_more m.more d m.are_more k }, decimal_more (0 * 10 + (m.first - 0x30)) m.more d ∙ s)

pub int_written : (z : ℤ) → (i : Int) × (int_value i ≡ z)
unfolding int_value
int_written (pos zero) = (zero_int, refl)
int_written (pos (suc n)) = let w = natural_written (suc n) (suc n) (omega arith) (omega arith) in (plain_int w.0, ap pos w.1)
int_written (negsuc n) = let w = natural_written (suc n) (suc n) (omega arith) (omega arith) in (minus_int w.0, ap (λ (k : ℕ). neg_ℤ (pos k)) w.1)

-- an integer inside i64 is what its digits stand for as a literal
pub integer_written : (z : ℤ) → inside_i64 z ≡ true → (n : Number) × (numeral n ≡ Numeral.integer z)
unfolding inside_i64 numeral numeral_of whole_numeral is_minus whole_digits decimal_from
integer_written (pos zero) h = (record { whole = int_whole zero_int; frac = no_fraction; exp = no_exponent }, refl)
integer_written (pos (suc n)) h = let w = natural_written (suc n) (suc n) (omega arith) (omega arith) in (record { whole = int_whole (plain_int w.0); frac = no_fraction; exp = no_exponent }, rw (w.1, h) refl)
integer_written (negsuc n) h =
    let w = natural_written (suc n) (suc n) (omega arith) (omega arith) in
    let l = le-leb (suc n) (2 ^ 63) (ltb-true n (2 ^ 63) h) in
    (record { whole = int_whole (minus_int w.0); frac = no_fraction; exp = no_exponent }, rw (w.1, l) refl)
