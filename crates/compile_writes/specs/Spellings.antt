-- Lengths of spellings: a quoted text is spelled by two bytes more than it stands for at least, and a number, a slice and an operator by one byte at least.
use Rattle.std.specs.Prelude.{ℕ, ◌+◌, ◌≤◌, ◌≡◌, refl, List, [], ◌∷◌, ◌++◌, Bool, true, false, ◌||◌, eqb, length}
use Rattle.std.proofs.Common.{arith, length-append, eqb-true}
use Rattle.std.proofs.Math.Path.{subst⁻¹}
use Rattle.definition.specs.Utf8.{encode}
use Rattle.definition.specs.Lexical.{Int, Bound, Step, Slice, Number, Whole, Fraction, Exponent, Sign, Quote, Char, Escape, Text, is_short, spell_int, spell_whole, spell_fraction, spell_exponent, spell_sign, spell_number, spell_slice, spell_bound, spell_step, spell_escape, spell_blanks, spell_digits, spell_char, spell_chars, spell_text, own_byte}
use Rattle.definition.specs.Lexical.Int.{zero_int, plain_int, minus_int}
use Rattle.definition.specs.Lexical.Whole.{int_whole, minus_zero}
use Rattle.definition.specs.Lexical.Fraction.{no_fraction, fraction}
use Rattle.definition.specs.Lexical.Sign.{no_sign, plus_sign, minus_sign}
use Rattle.definition.specs.Lexical.Exponent.{no_exponent, exponent}
use Rattle.definition.specs.Lexical.Escape.{short, unicode, pair}
use Rattle.definition.specs.Lexical.Char.{plain, other_quote, own_quote, escape}
use Rattle.definition.specs.Lexical.Bound.{no_bound, bound}
use Rattle.definition.specs.Lexical.Step.{no_step, colon, step}
use Rattle.definition.specs.Literals.{short_value, escape_value, char_bytes, chars_bytes, text_bytes}
use Rattle.definition.specs.Grammar as G
use Rattle.definition.specs.Grammar.{spell_operator}
use Rattle.definition.specs.Grammar.Operator.{eq_operator, ne_operator, lt_operator, le_operator, gt_operator, ge_operator}
use Rattle.utf8_laws.specs.Texts.{encode_most}

-- ---- bytes

-- what holds of a number holds of a number that the test finds equal to it
one_of : (P : ℕ → Type 0) (a c : ℕ) (b : Bool) → (eqb c a || b) ≡ true → P a → (b ≡ true → P c) → P c
one_of P a c b h here there = go (eqb c a) refl h
  where
    go : (t : Bool) → eqb c a ≡ t → (t || b) ≡ true → P c
    go true e k = subst⁻¹ P (eqb-true c a e) here
    go false e k = there k

-- a letter behind a backslash names a code point of one byte
short_encodes : (c : ℕ) → is_short c ≡ true → length (encode (short_value c)) ≡ 1
unfolding encode short_value
short_encodes c h =
    one_of P 0x62 c _ h refl (λ h₁.
    one_of P 0x66 c _ h₁ refl (λ h₂.
    one_of P 0x6E c _ h₂ refl (λ h₃.
    one_of P 0x72 c _ h₃ refl (λ h₄.
    one_of P 0x74 c _ h₄ refl (λ h₅.
    one_of P 0x2F c _ h₅ refl (λ h₆.
    subst⁻¹ P (eqb-true c 0x5C h₆) refl))))))
  where
    P : ℕ → Type 0
    P d = length (encode (short_value d)) ≡ 1

-- ---- texts

-- an escape, a character, characters: what they stand for is never longer than what they are spelled by
escape_shrinks : (e : Escape) (r : List ℕ) → length (encode (escape_value e)) + length r ≤ length (spell_escape e r)
unfolding escape_value
escape_shrinks (short c h) r = omega (arith, short_encodes c h)
escape_shrinks (unicode h g) r = omega (arith, encode_most (escape_value (unicode h g)))
escape_shrinks (pair h l g k) r = omega (arith, encode_most (escape_value (pair h l g k)))

char_shrinks : (q : Quote) (c : Char) (r : List ℕ) → length (char_bytes q c) + length r ≤ length (spell_char q c r)
unfolding char_bytes
char_shrinks q (plain c h) r = simp length-append (omega arith)
char_shrinks q other_quote r = omega arith
char_shrinks q own_quote r = omega arith
char_shrinks q (escape e) r = escape_shrinks e r

chars_shrink : (q : Quote) (cs : List Char) (r : List ℕ) → length (chars_bytes q cs) + length r ≤ length (spell_chars q cs r)
unfolding chars_bytes
chars_shrink q [] r = omega arith
chars_shrink q (c ∷ cs) r = simp length-append (omega (arith, char_shrinks q c (spell_chars q cs r), chars_shrink q cs r))

-- and a text has its two quotes besides
pub text_shrinks : (t : Text) (r : List ℕ) → length (text_bytes t ++ r) + 2 ≤ length (spell_text t r)
unfolding text_bytes
text_shrinks t r = simp length-append (omega (arith, chars_shrink t.quote t.chars (own_byte t.quote ∷ r)))

-- ---- numbers, slices and operators

-- a whole number has a byte at least
pub int_spends : (i : Int) (r : List ℕ) → length r + 1 ≤ length (spell_int i r)
int_spends zero_int r = omega arith
int_spends (plain_int n) r = simp length-append (omega arith)
int_spends (minus_int n) r = simp length-append (omega arith)

whole_spends : (w : Whole) (r : List ℕ) → length r + 1 ≤ length (spell_whole w r)
whole_spends (int_whole i) r = int_spends i r
whole_spends minus_zero r = omega arith

-- what is not there has no bytes, and nothing takes any away
fraction_keeps : (f : Fraction) (r : List ℕ) → length r ≤ length (spell_fraction f r)
fraction_keeps no_fraction r = omega arith
fraction_keeps (fraction d) r = simp length-append (omega arith)

sign_keeps : (s : Sign) (r : List ℕ) → length r ≤ length (spell_sign s r)
sign_keeps no_sign r = omega arith
sign_keeps plus_sign r = omega arith
sign_keeps minus_sign r = omega arith

exponent_keeps : (x : Exponent) (r : List ℕ) → length r ≤ length (spell_exponent x r)
exponent_keeps no_exponent r = omega arith
exponent_keeps (exponent e h s d) r = omega (arith, sign_keeps s (spell_digits d r), length-append d.more r)

-- a number literal has a byte at least
pub number_spends : (n : Number) (r : List ℕ) → length r + 1 ≤ length (spell_number n r)
number_spends n r =
    omega (arith, whole_spends n.whole (spell_fraction n.frac (spell_exponent n.exp r)), fraction_keeps n.frac (spell_exponent n.exp r), exponent_keeps n.exp r)

-- bounds and steps may have no bytes
bound_keeps : (b : Bound) (r : List ℕ) → length r ≤ length (spell_bound b r)
bound_keeps no_bound r = omega arith
bound_keeps (bound i b) r = omega (arith, int_spends i (spell_blanks b r), length-append b.bytes r)

step_keeps : (s : Step) (r : List ℕ) → length r ≤ length (spell_step s r)
step_keeps no_step r = omega arith
step_keeps colon r = omega arith
step_keeps (step b i) r = omega (arith, int_spends i r, length-append b.bytes (spell_int i r))

-- a slice has its colon
pub slice_spends : (s : Slice) (r : List ℕ) → length r + 1 ≤ length (spell_slice s r)
slice_spends s r =
    let stop : List ℕ = spell_bound s.stop (spell_step s.by r) in
    omega (arith, bound_keeps s.start (0x3A ∷ spell_blanks s.blanks stop), length-append s.blanks.bytes stop, bound_keeps s.stop (spell_step s.by r), step_keeps s.by r)

-- an operator has a byte at least
pub operator_spends : (o : G.Operator) (r : List ℕ) → length r + 1 ≤ length (spell_operator o r)
operator_spends eq_operator r = omega arith
operator_spends ne_operator r = omega arith
operator_spends lt_operator r = omega arith
operator_spends le_operator r = omega arith
operator_spends gt_operator r = omega arith
operator_spends ge_operator r = omega arith
