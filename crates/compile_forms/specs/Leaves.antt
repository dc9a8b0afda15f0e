-- The rules of the grammar that do not nest leave the bracket count as it was: names, numbers, quoted texts, slices, singular queries, literals, operators.
use Rattle.std.specs.Prelude.{ℕ, ◌≤◌, ◌≡◌, refl, List, [], ◌∷◌, Bool, true, false, cond, ◌||◌, eqb, ltb}
use Rattle.std.proofs.Common.{arith, ⊎_elim, eqb-true, ne_eqb, ltb-false}
use Rattle.std.proofs.Math.Bool.{and-eq-true_iff}
use Rattle.definition.specs.Bytes.{every, within}
use Rattle.definition.specs.Utf8.{encode}
use Rattle.definition.specs.Lexical.{Blanks, Name, FunctionName, Natural, Digits, Number, Hex4, Text, Slice, Int, Whole, Fraction, Sign, Exponent, Escape, Char, Quote, Bound, Step}
use Rattle.definition.specs.Lexical.{is_blank, is_digit, is_lcalpha, is_function_char, is_name_char, is_unescaped, is_hex, is_e, name_bytes, own_byte, other_byte}
use Rattle.definition.specs.Lexical.{spell_blanks, spell_name, spell_function_name, spell_natural, spell_digits, spell_int, spell_whole, spell_fraction, spell_sign, spell_exponent, spell_number, spell_hex4, spell_escape, spell_char, spell_chars, spell_text, spell_bound, spell_step, spell_slice}
use Rattle.definition.specs.Lexical.Int.{zero_int, plain_int, minus_int}
use Rattle.definition.specs.Lexical.Whole.{int_whole, minus_zero}
use Rattle.definition.specs.Lexical.Fraction.{no_fraction, fraction}
use Rattle.definition.specs.Lexical.Sign.{no_sign, plus_sign, minus_sign}
use Rattle.definition.specs.Lexical.Exponent.{no_exponent, exponent}
use Rattle.definition.specs.Lexical.Escape.{short, unicode, pair}
use Rattle.definition.specs.Lexical.Char.{plain, other_quote, own_quote, escape}
use Rattle.definition.specs.Lexical.Quote.{double, single}
use Rattle.definition.specs.Lexical.Bound.{no_bound, bound}
use Rattle.definition.specs.Lexical.Step.{no_step, colon, step}
use Rattle.definition.specs.Grammar as G
use Rattle.definition.specs.Grammar.{spell_singular_segment, spell_singular_segments, spell_singular, spell_literal, spell_operator}
use Rattle.definition.specs.Grammar.SingularSegment.{name_segment, dot_segment, index_segment}
use Rattle.definition.specs.Grammar.SingularSegments.{no_singular, more_singular}
use Rattle.definition.specs.Grammar.Singular.{rel_singular, abs_singular}
use Rattle.definition.specs.Grammar.Literal.{number_literal, text_literal, true_literal, false_literal, null_literal}
use Rattle.definition.specs.Grammar.Operator.{eq_operator, ne_operator, lt_operator, le_operator, gt_operator, ge_operator}
use Rattle.basics.specs.Bools.{or_cases}
use Rattle.utf8_laws.specs.Bytes.{inside_low, inside_high, by_test}
use Rattle.utf8_laws.specs.Scan.{byte_of, char_bytes_lem}
use Rattle.utf8_laws.specs.Names.{name_byte, name_bytes_lem}
use Rattle.compile_forms.specs.Bracket.{is_quiet, Low, skip, skip_run, open_square, close_square, Held, open_double, open_single, close_double, close_single, held_run, held_escape}

-- ---- classes of bytes

-- a class that holds only such bytes as another test passes
abbrev Only : (ℕ → Bool) → (ℕ → Bool) → Type 0
Only q p = (c : ℕ) → p c ≡ true → q c ≡ true

-- two classes together
only_or : {q : ℕ → Bool} (p p' : ℕ → Bool) → Only q p → Only q p' → Only q (λ c. p c || p' c)
only_or p p' f g c e = ⊎_elim (f c) (g c) (or_cases (p c) (p' c) e)

-- all bytes of a run
only_every : {q : ℕ → Bool} (p : ℕ → Bool) → Only q p → (l : List ℕ) → every p l ≡ true → every q l ≡ true
only_every p f [] e = refl
only_every {q} p f (c ∷ l) e =
    let t = (and-eq-true_iff (p c) (every p l)).0 e in
    (and-eq-true_iff (q c) (every q l)).1 (f c t.0, only_every p f l t.1)

-- bytes from 80 on, or of the class
only_bytes : {q : ℕ → Bool} (p : ℕ → Bool) → ((c : ℕ) → 0x80 ≤ c → q c ≡ true) → Only q p → Only q (byte_of p)
only_bytes {q} p f g c e =
    by_test (ltb c 0x80) (λ y. g c (rw y at e)) (λ n. f c (ltb-false c 0x80 n))

-- a byte that is none of the six
quiet_by : (c : ℕ) → (c ≡ 0x22 → ⊥) × (c ≡ 0x27 → ⊥) × (c ≡ 0x5B → ⊥) × (c ≡ 0x28 → ⊥) × (c ≡ 0x5D → ⊥) × (c ≡ 0x29 → ⊥) → is_quiet c ≡ true
quiet_by c h = rw (ne_eqb c 0x22 h.0, ne_eqb c 0x27 h.1, ne_eqb c 0x5B h.2, ne_eqb c 0x28 h.3, ne_eqb c 0x5D h.4, ne_eqb c 0x29 h.5)

abbrev Quiet : (ℕ → Bool) → Type 0
Quiet p = Only is_quiet p

-- a class of one byte
quiet_one : (x : ℕ) → is_quiet x ≡ true → Quiet (λ c. eqb c x)
quiet_one x h c e = rw (eqb-true c x e) h

-- digits, letters, and the ranges beyond ASCII
quiet_digit : Quiet is_digit
quiet_digit c e = quiet_by c (omega (arith, inside_low 0x30 0x39 c e, inside_high 0x30 0x39 c e))

quiet_lower : Quiet is_lcalpha
quiet_lower c e = quiet_by c (omega (arith, inside_low 0x61 0x7A c e, inside_high 0x61 0x7A c e))

quiet_upper : Quiet (within 0x41 0x5A)
quiet_upper c e = quiet_by c (omega (arith, inside_low 0x41 0x5A c e, inside_high 0x41 0x5A c e))

quiet_high : (lo hi : ℕ) → 0x80 ≤ lo → Quiet (within lo hi)
quiet_high lo hi h c e = quiet_by c (omega (arith, inside_low lo hi c e))

-- the classes of blanks, names, function names and the letter of an exponent
quiet_blank : Quiet is_blank
quiet_blank = only_or _ _ (quiet_one 0x20 refl) (only_or _ _ (quiet_one 0x09 refl) (only_or _ _ (quiet_one 0x0A refl) (quiet_one 0x0D refl)))

quiet_name : Quiet is_name_char
quiet_name =
    only_or _ _
    (only_or _ _ (only_or _ _ quiet_upper quiet_lower) (only_or _ _ (quiet_one 0x5F refl) (only_or _ _ (quiet_high 0x80 0xD7FF (omega arith)) (quiet_high 0xE000 0x10FFFF (omega arith)))))
    quiet_digit

quiet_word : Quiet is_function_char
quiet_word = only_or _ _ quiet_lower (only_or _ _ (quiet_one 0x5F refl) quiet_digit)

quiet_e : Quiet is_e
quiet_e = only_or _ _ (quiet_one 0x65 refl) (quiet_one 0x45 refl)

-- ---- what leaves the count

-- blanks and names
pub blanks : (t : Blanks) {n : ℕ} {r : List ℕ} → Low n (spell_blanks t r) → Low n r
blanks b h = skip_run b.bytes (only_every is_blank quiet_blank b.bytes b.good) h

pub name : (t : Name) {n : ℕ} {r : List ℕ} → Low n (spell_name t r) → Low n r
name t h = skip_run (name_bytes t) (only_every name_byte (only_bytes is_name_char (λ c l. quiet_by c (omega arith)) quiet_name) (name_bytes t) (name_bytes_lem t)) h

pub function_name : (t : FunctionName) {n : ℕ} {r : List ℕ} → Low n (spell_function_name t r) → Low n r
function_name t h = skip_run t.more (only_every is_function_char quiet_word t.more t.are_more) (skip t.first (quiet_lower t.first t.is_first) h)

-- numbers
natural : (t : Natural) {n : ℕ} {r : List ℕ} → Low n (spell_natural t r) → Low n r
natural t h =
    skip_run t.more (only_every is_digit quiet_digit t.more t.are_more)
    (skip t.first (quiet_by t.first (omega (arith, inside_low 0x31 0x39 t.first t.is_first, inside_high 0x31 0x39 t.first t.is_first))) h)

digits : (t : Digits) {n : ℕ} {r : List ℕ} → Low n (spell_digits t r) → Low n r
digits t h = skip_run t.more (only_every is_digit quiet_digit t.more t.are_more) (skip t.first (quiet_digit t.first t.is_first) h)

pub int : (t : Int) {n : ℕ} {r : List ℕ} → Low n (spell_int t r) → Low n r
int zero_int h = skip 0x30 refl h
int (plain_int t) h = natural t h
int (minus_int t) h = natural t (skip 0x2D refl h)

whole : (t : Whole) {n : ℕ} {r : List ℕ} → Low n (spell_whole t r) → Low n r
whole (int_whole i) h = int i h
whole minus_zero h = skip 0x30 refl (skip 0x2D refl h)

frac : (t : Fraction) {n : ℕ} {r : List ℕ} → Low n (spell_fraction t r) → Low n r
frac no_fraction h = h
frac (fraction d) h = digits d (skip 0x2E refl h)

sign : (t : Sign) {n : ℕ} {r : List ℕ} → Low n (spell_sign t r) → Low n r
sign no_sign h = h
sign plus_sign h = skip 0x2B refl h
sign minus_sign h = skip 0x2D refl h

exp : (t : Exponent) {n : ℕ} {r : List ℕ} → Low n (spell_exponent t r) → Low n r
exp no_exponent h = h
exp (exponent e g s d) h = digits d (sign s (skip e (quiet_e e g) h))

number : (t : Number) {n : ℕ} {r : List ℕ} → Low n (spell_number t r) → Low n r
number t h = exp t.exp (frac t.frac (whole t.whole h))

-- ---- quoted texts

-- a byte of a quoted text that is neither its quote nor a backslash
abbrev is_inner : ℕ → ℕ → Bool
is_inner q b = cond (eqb b q) false (cond (eqb b 0x5C) false true)

-- it is so if it is neither
inner_by : (q c : ℕ) → (c ≡ q → ⊥) → (c ≡ 0x5C → ⊥) → is_inner q c ≡ true
inner_by q c f g = rw (ne_eqb c q f, ne_eqb c 0x5C g)

-- the two quotes
data IsQuote : ℕ → Type 0 where
  is_double : IsQuote 0x22
  is_single : IsQuote 0x27

-- the byte of a quote is one
own_quote_lem : (q : Quote) → IsQuote (own_byte q)
own_quote_lem double = is_double
own_quote_lem single = is_single

-- what is no quote is not this one
quote_not : {q : ℕ} (c : ℕ) → IsQuote q → (c ≡ 0x22 → ⊥) → (c ≡ 0x27 → ⊥) → c ≡ q → ⊥
quote_not c is_double f g = f
quote_not c is_single f g = g

-- a quote is no backslash
no_backslash : {q : ℕ} → IsQuote q → eqb 0x5C q ≡ false
no_backslash is_double = refl
no_backslash is_single = refl

-- a range of characters without quotes and backslash
inner_range : {q : ℕ} → IsQuote q → (lo hi : ℕ) → ((c : ℕ) → lo ≤ c → c ≤ hi → (c ≡ 0x22 → ⊥) × (c ≡ 0x27 → ⊥) × (c ≡ 0x5C → ⊥)) → Only (is_inner q) (within lo hi)
inner_range {q} i lo hi k c e =
    let h = k c (inside_low lo hi c e) (inside_high lo hi c e) in
    inner_by q c (quote_not c i h.0 h.1) h.2

-- an unescaped character
inner_unescaped : {q : ℕ} → IsQuote q → Only (is_inner q) is_unescaped
inner_unescaped i =
    only_or _ _ (inner_range i 0x20 0x21 (omega arith))
    (only_or _ _ (inner_range i 0x23 0x26 (omega arith))
    (only_or _ _ (inner_range i 0x28 0x5B (omega arith)) (only_or _ _ (inner_range i 0x5D 0xD7FF (omega arith)) (inner_range i 0xE000 0x10FFFF (omega arith)))))

-- the bytes of an unescaped character, and hexadecimal digits
inner_bytes : {q : ℕ} → IsQuote q → Only (is_inner q) (byte_of is_unescaped)
inner_bytes {q} i = only_bytes is_unescaped (λ c l. inner_by q c (quote_not c i (omega arith) (omega arith)) (omega arith)) (inner_unescaped i)

inner_hex : {q : ℕ} → IsQuote q → Only (is_inner q) is_hex
inner_hex i = only_or _ _ (inner_range i 0x30 0x39 (omega arith)) (only_or _ _ (inner_range i 0x41 0x46 (omega arith)) (inner_range i 0x61 0x66 (omega arith)))

-- one byte inside
held_one : {q : ℕ} (c : ℕ) {n : ℕ} {r : List ℕ} → is_inner q c ≡ true → Held q n (c ∷ r) → Held q n r
held_one c e h = held_run (c ∷ []) (rw e) h

-- four digits, and an escape: the byte behind a backslash is skipped
hex4 : {q : ℕ} → IsQuote q → (t : Hex4) {n : ℕ} {r : List ℕ} → Held q n (spell_hex4 t r) → Held q n r
hex4 {q} i t h =
    let a = (and-eq-true_iff (is_hex t.a) _).0 t.good in
    let b = (and-eq-true_iff (is_hex t.b) _).0 a.1 in
    let c = (and-eq-true_iff (is_hex t.c) (is_hex t.d)).0 b.1 in
    held_one t.d (inner_hex i t.d c.1) (held_one t.c (inner_hex i t.c c.0) (held_one t.b (inner_hex i t.b b.0) (held_one t.a (inner_hex i t.a a.0) h)))

escaped : {q : ℕ} → IsQuote q → (t : Escape) {n : ℕ} {r : List ℕ} → Held q n (spell_escape t r) → Held q n r
escaped i (short c e) h = held_escape (no_backslash i) h
escaped i (unicode t e) h = hex4 i t (held_escape (no_backslash i) h)
escaped i (pair t u e f) h = hex4 i u (held_escape (no_backslash i) (hex4 i t (held_escape (no_backslash i) h)))

-- the other quote may stand inside
other_inner : (q : Quote) → is_inner (own_byte q) (other_byte q) ≡ true
other_inner double = refl
other_inner single = refl

-- a character, and all of a text
char : (q : Quote) (t : Char) {n : ℕ} {r : List ℕ} → Held (own_byte q) n (spell_char q t r) → Held (own_byte q) n r
char q (plain c e) h = held_run (encode c) (only_every (byte_of is_unescaped) (inner_bytes (own_quote_lem q)) (encode c) (char_bytes_lem is_unescaped c e)) h
char q other_quote h = held_one (other_byte q) (other_inner q) h
char q own_quote h = held_escape (no_backslash (own_quote_lem q)) h
char q (escape e) h = escaped (own_quote_lem q) e h

char_list : (q : Quote) (t : List Char) {n : ℕ} {r : List ℕ} → Held (own_byte q) n (spell_chars q t r) → Held (own_byte q) n r
char_list q [] h = h
char_list q (c ∷ cs) h = char_list q cs (char q c h)

-- a quoted text, by its quote
text_by : (q : Quote) (t : List Char) {n : ℕ} {r : List ℕ} → Low n (own_byte q ∷ spell_chars q t (own_byte q ∷ r)) → Low n r
text_by double t h = close_double (char_list double t (open_double h))
text_by single t h = close_single (char_list single t (open_single h))

-- a quoted text
pub text : (t : Text) {n : ℕ} {r : List ℕ} → Low n (spell_text t r) → Low n r
text t h = text_by t.quote t.chars h

-- ---- slices, singular queries, literals, operators

-- a bound and a step, and with them a slice
bounds : (t : Bound) {n : ℕ} {r : List ℕ} → Low n (spell_bound t r) → Low n r
bounds no_bound h = h
bounds (bound i b) h = blanks b (int i h)

steps : (t : Step) {n : ℕ} {r : List ℕ} → Low n (spell_step t r) → Low n r
steps no_step h = h
steps colon h = skip 0x3A refl h
steps (step b i) h = int i (blanks b (skip 0x3A refl h))

pub slice : (t : Slice) {n : ℕ} {r : List ℕ} → Low n (spell_slice t r) → Low n r
slice t h = steps t.by (bounds t.stop (blanks t.blanks (skip 0x3A refl (bounds t.start h))))

-- a segment of a singular query, whose bracket closes again
singular_segment : (t : G.SingularSegment) {n : ℕ} {r : List ℕ} → Low n (spell_singular_segment t r) → Low n r
singular_segment (name_segment t) h = close_square (text t (open_square h))
singular_segment (dot_segment t) h = name t (skip 0x2E refl h)
singular_segment (index_segment i) h = close_square (int i (open_square h))

singular_segments : (t : G.SingularSegments) {n : ℕ} {r : List ℕ} → Low n (spell_singular_segments t r) → Low n r
singular_segments no_singular h = h
singular_segments (more_singular b x xs) h = singular_segments xs (singular_segment x (blanks b h))

pub singular : (t : G.Singular) {n : ℕ} {r : List ℕ} → Low n (spell_singular t r) → Low n r
singular (rel_singular xs) h = singular_segments xs (skip 0x40 refl h)
singular (abs_singular xs) h = singular_segments xs (skip 0x24 refl h)

-- literals and operators
pub literal : (t : G.Literal) {n : ℕ} {r : List ℕ} → Low n (spell_literal t r) → Low n r
literal (number_literal t) h = number t h
literal (text_literal t) h = text t h
literal true_literal h = skip_run (0x74 ∷ 0x72 ∷ 0x75 ∷ 0x65 ∷ []) refl h
literal false_literal h = skip_run (0x66 ∷ 0x61 ∷ 0x6C ∷ 0x73 ∷ 0x65 ∷ []) refl h
literal null_literal h = skip_run (0x6E ∷ 0x75 ∷ 0x6C ∷ 0x6C ∷ []) refl h

pub operator : (t : G.Operator) {n : ℕ} {r : List ℕ} → Low n (spell_operator t r) → Low n r
operator eq_operator h = skip_run (0x3D ∷ 0x3D ∷ []) refl h
operator ne_operator h = skip_run (0x21 ∷ 0x3D ∷ []) refl h
operator lt_operator h = skip 0x3C refl h
operator le_operator h = skip_run (0x3C ∷ 0x3D ∷ []) refl h
operator gt_operator h = skip 0x3E refl h
operator ge_operator h = skip_run (0x3E ∷ 0x3D ∷ []) refl h
