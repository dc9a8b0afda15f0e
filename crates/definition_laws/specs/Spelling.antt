-- What a tree of the grammar spells is UTF-8, and no query is empty: so a text that is refused 2 is in no tree's way.
use Rattle.std.specs.Prelude.{◌≡◌, refl, Bool, true, ◌||◌, List, [], ◌∷◌, ◌++◌, ℕ, ◌<◌, eqb, length}
use Rattle.std.proofs.Common.{ap, ◌∙◌, ⊎_elim, append_assoc, arith, eqb-true, lit<}
use Rattle.definition.specs.Bytes.{every, within}
use Rattle.definition.specs.Utf8.{is_utf8, encode, encode_all}
use Rattle.definition.specs.Lexical.{Quote}
use Rattle.definition.specs.Lexical.{is_blank, is_digit, is_lcalpha, is_function_char, is_hex, is_e, is_short, own_byte, other_byte}
use Rattle.definition.specs.Lexical.{spell_blanks, spell_name, spell_function_name, spell_natural, spell_digits, spell_int, spell_whole, spell_fraction, spell_sign, spell_exponent, spell_number, spell_hex4, spell_escape, spell_char, spell_chars, spell_text, spell_bound, spell_step, spell_slice}
use Rattle.definition.specs.Lexical.Int.{zero_int, plain_int, minus_int}
use Rattle.definition.specs.Lexical.Whole.{int_whole, minus_zero}
use Rattle.definition.specs.Lexical.Fraction.{no_fraction, fraction}
use Rattle.definition.specs.Lexical.Sign.{no_sign, plus_sign, minus_sign}
use Rattle.definition.specs.Lexical.Exponent.{no_exponent, exponent}
use Rattle.definition.specs.Lexical.Escape.{short, unicode, pair}
use Rattle.definition.specs.Lexical.Char.{plain, other_quote, own_quote, escape}
use Rattle.definition.specs.Lexical.Bound.{no_bound, bound}
use Rattle.definition.specs.Lexical.Step.{no_step, colon, step}
use Rattle.definition.specs.Grammar as G
use Rattle.definition.specs.Grammar.{spell_singular_segment, spell_singular_segments, spell_singular, spell_literal, spell_operator, spell_segments, spell_segment, spell_bracketed, spell_selectors, spell_selector, spell_logical_or, spell_more_or, spell_logical_and, spell_more_and, spell_basic, spell_paren, spell_test, spell_filter_query, spell_comparable, spell_function, spell_arguments, spell_more_arguments, spell_argument, spell}
use Rattle.definition.specs.Grammar.SingularSegment.{name_segment, dot_segment, index_segment}
use Rattle.definition.specs.Grammar.SingularSegments.{no_singular, more_singular}
use Rattle.definition.specs.Grammar.Singular.{rel_singular, abs_singular}
use Rattle.definition.specs.Grammar.Literal.{number_literal, text_literal, true_literal, false_literal, null_literal}
use Rattle.definition.specs.Grammar.Operator.{eq_operator, ne_operator, lt_operator, le_operator, gt_operator, ge_operator}
use Rattle.definition.specs.Grammar.Segments.{no_segment, more_segments}
use Rattle.definition.specs.Grammar.Segment.{child_brackets, child_wild, child_name, descendant_brackets, descendant_wild, descendant_name}
use Rattle.definition.specs.Grammar.Bracketed.{bracketed}
use Rattle.definition.specs.Grammar.Selectors.{no_selector, more_selectors}
use Rattle.definition.specs.Grammar.Selector.{name_selector, wildcard_selector, slice_selector, index_selector, filter_selector}
use Rattle.definition.specs.Grammar.LogicalOr.{logical_or}
use Rattle.definition.specs.Grammar.MoreOr.{no_or, more_or}
use Rattle.definition.specs.Grammar.LogicalAnd.{logical_and}
use Rattle.definition.specs.Grammar.MoreAnd.{no_and, more_and}
use Rattle.definition.specs.Grammar.Basic.{paren_basic, not_paren, comparison, test_basic, not_test}
use Rattle.definition.specs.Grammar.Paren.{paren}
use Rattle.definition.specs.Grammar.Test.{query_test, function_test}
use Rattle.definition.specs.Grammar.FilterQuery.{rel_query, abs_query}
use Rattle.definition.specs.Grammar.Comparable.{literal_comparable, singular_comparable, function_comparable}
use Rattle.definition.specs.Grammar.Function.{function}
use Rattle.definition.specs.Grammar.Arguments.{no_argument, arguments}
use Rattle.definition.specs.Grammar.MoreArguments.{no_more, more_arguments}
use Rattle.definition.specs.Grammar.Argument.{literal_argument, query_argument, logical_argument, function_argument}
use Rattle.basics.specs.Bools.{and_left, and_right, or_cases as either}
use Rattle.utf8_laws.specs.Texts.{name_scalars as chars, other_ascii, own_ascii}
use Rattle.utf8_laws.specs.Bytes.{inside_high}
use Rattle.utf8_laws.specs.Encode.{utf8_ascii, utf8_encode, utf8_encode_all}
use Rattle.utf8_laws.specs.Names.{name_scalar, unescaped_scalar, first_char}
use Rattle.compile_forms.specs.Literal.{nothing_utf8}

-- ---- classes of ASCII bytes

abbrev Ascii : (ℕ → Bool) → Type 0
Ascii p = (c : ℕ) → p c ≡ true → c < 0x80

ascii_or : (p q : ℕ → Bool) → Ascii p → Ascii q → Ascii (λ c. p c || q c)
ascii_or p q f g c e = ⊎_elim (f c) (g c) (either (p c) (q c) e)

ascii_one : (x : ℕ) → x < 0x80 → Ascii (λ c. eqb c x)
ascii_one x h c e = omega (arith, eqb-true c x e)

ascii_within : (lo hi : ℕ) → hi < 0x80 → Ascii (within lo hi)
ascii_within lo hi h c e = omega (arith, inside_high lo hi c e)

blank_ascii : Ascii is_blank
blank_ascii = ascii_or _ _ (ascii_one 0x20 (lit< tt)) (ascii_or _ _ (ascii_one 0x09 (lit< tt)) (ascii_or _ _ (ascii_one 0x0A (lit< tt)) (ascii_one 0x0D (lit< tt))))

digit_ascii : Ascii is_digit
digit_ascii = ascii_within 0x30 0x39 (lit< tt)

lower_ascii : Ascii is_lcalpha
lower_ascii = ascii_within 0x61 0x7A (lit< tt)

word_ascii : Ascii is_function_char
word_ascii = ascii_or _ _ lower_ascii (ascii_or _ _ (ascii_one 0x5F (lit< tt)) digit_ascii)

hex_ascii : Ascii is_hex
hex_ascii = ascii_or _ _ digit_ascii (ascii_or _ _ (ascii_within 0x41 0x46 (lit< tt)) (ascii_within 0x61 0x66 (lit< tt)))

short_ascii : Ascii is_short
short_ascii =
    ascii_or _ _ (ascii_one 0x62 (lit< tt))
    (ascii_or _ _ (ascii_one 0x66 (lit< tt))
    (ascii_or _ _ (ascii_one 0x6E (lit< tt))
    (ascii_or _ _ (ascii_one 0x72 (lit< tt)) (ascii_or _ _ (ascii_one 0x74 (lit< tt)) (ascii_or _ _ (ascii_one 0x2F (lit< tt)) (ascii_one 0x5C (lit< tt)))))))

-- a run of ASCII bytes before a text
run : (p : ℕ → Bool) → Ascii p → (l r : List ℕ) → every p l ≡ true → is_utf8 (l ++ r) ≡ is_utf8 r
run p a [] r e = refl
run p a (c ∷ l) r e = utf8_ascii c (l ++ r) (a c (and_left (p c) (every p l) e)) ∙ run p a l r (and_right (p c) (every p l) e)

-- one ASCII byte before a text
one : (c : ℕ) (r : List ℕ) {b : Bool} → c < 0x80 → is_utf8 r ≡ b → is_utf8 (c ∷ r) ≡ b
one c r h e = utf8_ascii c r h ∙ e

-- ---- the rules that do not nest: each tree leaves the question to what follows

-- Leaves of a rule: whether the whole is UTF-8 is whether the rest is.
abbrev Leaves : {T : Type 0} → (T → List ℕ → List ℕ) → Type 0
Leaves {T} sp = (t : T) (r : List ℕ) → is_utf8 (sp t r) ≡ is_utf8 r

blanks : Leaves spell_blanks
blanks b r = run is_blank blank_ascii b.bytes r b.good

name : Leaves spell_name
name n r =
    ap is_utf8 (append_assoc (encode n.first) (encode_all n.more) r)
    ∙ utf8_encode n.first (encode_all n.more ++ r) (name_scalar n.first (first_char n.first n.is_first))
    ∙ utf8_encode_all n.more r (chars n.more n.are_more)

function_name : Leaves spell_function_name
function_name n r = one n.first _ (lower_ascii n.first n.is_first) (run is_function_char word_ascii n.more r n.are_more)

natural : Leaves spell_natural
natural n r = one n.first _ (ascii_within 0x31 0x39 (lit< tt) n.first n.is_first) (run is_digit digit_ascii n.more r n.are_more)

digits : Leaves spell_digits
digits d r = one d.first _ (digit_ascii d.first d.is_first) (run is_digit digit_ascii d.more r d.are_more)

int : Leaves spell_int
int zero_int r = one 0x30 _ (lit< tt) refl
int (plain_int n) r = natural n r
int (minus_int n) r = one 0x2D _ (lit< tt) (natural n r)

whole : Leaves spell_whole
whole (int_whole i) r = int i r
whole minus_zero r = one 0x2D _ (lit< tt) (one 0x30 _ (lit< tt) refl)

frac : Leaves spell_fraction
frac no_fraction r = refl
frac (fraction d) r = one 0x2E _ (lit< tt) (digits d r)

sign : Leaves spell_sign
sign no_sign r = refl
sign plus_sign r = one 0x2B _ (lit< tt) refl
sign minus_sign r = one 0x2D _ (lit< tt) refl

e_ascii : Ascii is_e
e_ascii = ascii_or _ _ (ascii_one 0x65 (lit< tt)) (ascii_one 0x45 (lit< tt))

exp : Leaves spell_exponent
exp no_exponent r = refl
exp (exponent e h s d) r = one e _ (e_ascii e h) (sign s _ ∙ digits d r)

number : Leaves spell_number
number n r = whole n.whole _ ∙ frac n.frac _ ∙ exp n.exp r

hex4 : Leaves spell_hex4
hex4 h r =
    let a = and_left (is_hex h.a) _ h.good in
    let f = and_right (is_hex h.a) _ h.good in
    let b = and_left (is_hex h.b) _ f in
    let g = and_right (is_hex h.b) _ f in
    one h.a _ (hex_ascii h.a a) (one h.b _ (hex_ascii h.b b) (one h.c _ (hex_ascii h.c (and_left (is_hex h.c) _ g)) (one h.d _ (hex_ascii h.d (and_right (is_hex h.c) _ g)) refl)))

escaped : Leaves spell_escape
escaped (short c h) r = one 0x5C _ (lit< tt) (one c _ (short_ascii c h) refl)
escaped (unicode h g) r = one 0x5C _ (lit< tt) (one 0x75 _ (lit< tt) (hex4 h r))
escaped (pair h l g k) r = one 0x5C _ (lit< tt) (one 0x75 _ (lit< tt) (hex4 h _ ∙ one 0x5C _ (lit< tt) (one 0x75 _ (lit< tt) (hex4 l r))))

char : (q : Quote) → Leaves (spell_char q)
char q (plain c h) r = utf8_encode c r (unescaped_scalar c h)
char q other_quote r = one (other_byte q) _ (other_ascii q) refl
char q own_quote r = one 0x5C _ (lit< tt) (one (own_byte q) _ (own_ascii q) refl)
char q (escape e) r = escaped e r

char_list : (q : Quote) → Leaves (spell_chars q)
char_list q [] r = refl
char_list q (c ∷ cs) r = char q c _ ∙ char_list q cs r

text : Leaves spell_text
text t r = one (own_byte t.quote) _ (own_ascii t.quote) (char_list t.quote t.chars _ ∙ one (own_byte t.quote) _ (own_ascii t.quote) refl)

bounds : Leaves spell_bound
bounds no_bound r = refl
bounds (bound i b) r = int i _ ∙ blanks b r

steps : Leaves spell_step
steps no_step r = refl
steps colon r = one 0x3A _ (lit< tt) refl
steps (step b i) r = one 0x3A _ (lit< tt) (blanks b _ ∙ int i r)

slice : Leaves spell_slice
slice s r = bounds s.start _ ∙ one 0x3A _ (lit< tt) (blanks s.blanks _ ∙ bounds s.stop _ ∙ steps s.by r)

singular_segment : Leaves spell_singular_segment
singular_segment (name_segment t) r = one 0x5B _ (lit< tt) (text t _ ∙ one 0x5D _ (lit< tt) refl)
singular_segment (dot_segment n) r = one 0x2E _ (lit< tt) (name n r)
singular_segment (index_segment i) r = one 0x5B _ (lit< tt) (int i _ ∙ one 0x5D _ (lit< tt) refl)

singular_segments : Leaves spell_singular_segments
singular_segments no_singular r = refl
singular_segments (more_singular b x xs) r = blanks b _ ∙ singular_segment x _ ∙ singular_segments xs r

singular : Leaves spell_singular
singular (rel_singular xs) r = one 0x40 _ (lit< tt) (singular_segments xs r)
singular (abs_singular xs) r = one 0x24 _ (lit< tt) (singular_segments xs r)

literal : Leaves spell_literal
literal (number_literal n) r = number n r
literal (text_literal t) r = text t r
literal true_literal r = one 0x74 _ (lit< tt) (one 0x72 _ (lit< tt) (one 0x75 _ (lit< tt) (one 0x65 _ (lit< tt) refl)))
literal false_literal r = one 0x66 _ (lit< tt) (one 0x61 _ (lit< tt) (one 0x6C _ (lit< tt) (one 0x73 _ (lit< tt) (one 0x65 _ (lit< tt) refl))))
literal null_literal r = one 0x6E _ (lit< tt) (one 0x75 _ (lit< tt) (one 0x6C _ (lit< tt) (one 0x6C _ (lit< tt) refl)))

operator : Leaves spell_operator
operator eq_operator r = one 0x3D _ (lit< tt) (one 0x3D _ (lit< tt) refl)
operator ne_operator r = one 0x21 _ (lit< tt) (one 0x3D _ (lit< tt) refl)
operator lt_operator r = one 0x3C _ (lit< tt) refl
operator le_operator r = one 0x3C _ (lit< tt) (one 0x3D _ (lit< tt) refl)
operator gt_operator r = one 0x3E _ (lit< tt) refl
operator ge_operator r = one 0x3E _ (lit< tt) (one 0x3D _ (lit< tt) refl)

-- ---- the rules that nest

mutual
  segments : (t : G.Segments) (r : List ℕ) → is_utf8 (spell_segments t r) ≡ is_utf8 r
  segments no_segment r = refl
  segments (more_segments b x xs) r = blanks b _ ∙ segment x _ ∙ segments xs r

  segment : (t : G.Segment) (r : List ℕ) → is_utf8 (spell_segment t r) ≡ is_utf8 r
  segment (child_brackets x) r = brackets x r
  segment child_wild r = one 0x2E _ (lit< tt) (one 0x2A _ (lit< tt) refl)
  segment (child_name n) r = one 0x2E _ (lit< tt) (name n r)
  segment (descendant_brackets x) r = one 0x2E _ (lit< tt) (one 0x2E _ (lit< tt) (brackets x r))
  segment descendant_wild r = one 0x2E _ (lit< tt) (one 0x2E _ (lit< tt) (one 0x2A _ (lit< tt) refl))
  segment (descendant_name n) r = one 0x2E _ (lit< tt) (one 0x2E _ (lit< tt) (name n r))

  brackets : (t : G.Bracketed) (r : List ℕ) → is_utf8 (spell_bracketed t r) ≡ is_utf8 r
  brackets (bracketed b x xs c) r = one 0x5B _ (lit< tt) (blanks b _ ∙ selector x _ ∙ selectors xs _ ∙ blanks c _ ∙ one 0x5D _ (lit< tt) refl)

  selectors : (t : G.Selectors) (r : List ℕ) → is_utf8 (spell_selectors t r) ≡ is_utf8 r
  selectors no_selector r = refl
  selectors (more_selectors b c x xs) r = blanks b _ ∙ one 0x2C _ (lit< tt) (blanks c _ ∙ selector x _ ∙ selectors xs r)

  selector : (t : G.Selector) (r : List ℕ) → is_utf8 (spell_selector t r) ≡ is_utf8 r
  selector (name_selector t) r = text t r
  selector wildcard_selector r = one 0x2A _ (lit< tt) refl
  selector (slice_selector s) r = slice s r
  selector (index_selector i) r = int i r
  selector (filter_selector b e) r = one 0x3F _ (lit< tt) (blanks b _ ∙ or_expr e r)

  or_expr : (t : G.LogicalOr) (r : List ℕ) → is_utf8 (spell_logical_or t r) ≡ is_utf8 r
  or_expr (logical_or x xs) r = and_expr x _ ∙ ors xs r

  ors : (t : G.MoreOr) (r : List ℕ) → is_utf8 (spell_more_or t r) ≡ is_utf8 r
  ors no_or r = refl
  ors (more_or b c x xs) r = blanks b _ ∙ one 0x7C _ (lit< tt) (one 0x7C _ (lit< tt) (blanks c _ ∙ and_expr x _ ∙ ors xs r))

  and_expr : (t : G.LogicalAnd) (r : List ℕ) → is_utf8 (spell_logical_and t r) ≡ is_utf8 r
  and_expr (logical_and x xs) r = basic x _ ∙ ands xs r

  ands : (t : G.MoreAnd) (r : List ℕ) → is_utf8 (spell_more_and t r) ≡ is_utf8 r
  ands no_and r = refl
  ands (more_and b c x xs) r = blanks b _ ∙ one 0x26 _ (lit< tt) (one 0x26 _ (lit< tt) (blanks c _ ∙ basic x _ ∙ ands xs r))

  basic : (t : G.Basic) (r : List ℕ) → is_utf8 (spell_basic t r) ≡ is_utf8 r
  basic (paren_basic p) r = parens p r
  basic (not_paren b p) r = one 0x21 _ (lit< tt) (blanks b _ ∙ parens p r)
  basic (comparison x b o c y) r = comparable x _ ∙ blanks b _ ∙ operator o _ ∙ blanks c _ ∙ comparable y r
  basic (test_basic t) r = test t r
  basic (not_test b t) r = one 0x21 _ (lit< tt) (blanks b _ ∙ test t r)

  parens : (t : G.Paren) (r : List ℕ) → is_utf8 (spell_paren t r) ≡ is_utf8 r
  parens (paren b e c) r = one 0x28 _ (lit< tt) (blanks b _ ∙ or_expr e _ ∙ blanks c _ ∙ one 0x29 _ (lit< tt) refl)

  test : (t : G.Test) (r : List ℕ) → is_utf8 (spell_test t r) ≡ is_utf8 r
  test (query_test q) r = filter_query q r
  test (function_test f) r = call f r

  filter_query : (t : G.FilterQuery) (r : List ℕ) → is_utf8 (spell_filter_query t r) ≡ is_utf8 r
  filter_query (rel_query xs) r = one 0x40 _ (lit< tt) (segments xs r)
  filter_query (abs_query xs) r = one 0x24 _ (lit< tt) (segments xs r)

  comparable : (t : G.Comparable) (r : List ℕ) → is_utf8 (spell_comparable t r) ≡ is_utf8 r
  comparable (literal_comparable l) r = literal l r
  comparable (singular_comparable q) r = singular q r
  comparable (function_comparable f) r = call f r

  call : (t : G.Function) (r : List ℕ) → is_utf8 (spell_function t r) ≡ is_utf8 r
  call (function n b xs c) r = function_name n _ ∙ one 0x28 _ (lit< tt) (blanks b _ ∙ argument_list xs _ ∙ blanks c _ ∙ one 0x29 _ (lit< tt) refl)

  argument_list : (t : G.Arguments) (r : List ℕ) → is_utf8 (spell_arguments t r) ≡ is_utf8 r
  argument_list no_argument r = refl
  argument_list (arguments x xs) r = argument x _ ∙ furthers xs r

  furthers : (t : G.MoreArguments) (r : List ℕ) → is_utf8 (spell_more_arguments t r) ≡ is_utf8 r
  furthers no_more r = refl
  furthers (more_arguments b c x xs) r = blanks b _ ∙ one 0x2C _ (lit< tt) (blanks c _ ∙ argument x _ ∙ furthers xs r)

  argument : (t : G.Argument) (r : List ℕ) → is_utf8 (spell_argument t r) ≡ is_utf8 r
  argument (literal_argument l) r = literal l r
  argument (query_argument q) r = filter_query q r
  argument (logical_argument e) r = or_expr e r
  argument (function_argument f) r = call f r

-- ---- the query

-- what a query spells is UTF-8
pub spelling_utf8 : (q : G.Query) → is_utf8 (spell q) ≡ true
spelling_utf8 q = one 0x24 (spell_segments q.segments []) (lit< tt) (segments q.segments [] ∙ nothing_utf8)

-- and never empty
pub spelling_some : (q : G.Query) → 0 < length (spell q)
spelling_some q = omega arith
