-- How the parts of a query begin: the first byte of what a tree spells, and what may stand behind it.
use Rattle.std.specs.Prelude.{ℕ, ◌<◌, ◌+◌, ◌/◌, ◌%◌, ◌≡◌, refl, List, [], ◌∷◌, ◌++◌, Bool, true, false, cond, ◌||◌, eqb, ltb}
use Rattle.std.proofs.Common.{arith, sym, ap, ◌∙◌, append_assoc, true≢false}
use Rattle.definition.specs.Bytes.{every}
use Rattle.definition.specs.Utf8.{encode, encode_all}
use Rattle.definition.specs.Lexical.{Blanks, Name, Int, Whole, Quote, Text, Bound, is_blank, is_digit1, is_lcalpha, is_name_first, name_bytes, own_byte, spell_blanks, spell_int, spell_whole, spell_fraction, spell_exponent, spell_text, spell_bound}
use Rattle.definition.specs.Lexical.Int.{zero_int, plain_int, minus_int}
use Rattle.definition.specs.Lexical.Whole.{int_whole, minus_zero}
use Rattle.definition.specs.Lexical.Quote.{double, single}
use Rattle.definition.specs.Lexical.Bound.{no_bound, bound}
use Rattle.definition.specs.Grammar as G
use Rattle.definition.specs.Grammar.{spell, spell_segments, spell_segment, spell_selectors, spell_selector, spell_more_and, spell_more_or, spell_basic, spell_logical_and, spell_comparable, spell_literal, spell_operator, spell_singular_segment, spell_singular_segments, spell_function, spell_test}
use Rattle.definition.specs.Grammar.SingularSegment.{name_segment, dot_segment, index_segment}
use Rattle.definition.specs.Grammar.SingularSegments.{no_singular, more_singular}
use Rattle.definition.specs.Grammar.Singular.{rel_singular, abs_singular}
use Rattle.definition.specs.Grammar.Literal.{number_literal, text_literal, true_literal, false_literal, null_literal}
use Rattle.definition.specs.Grammar.Operator.{eq_operator, ne_operator, lt_operator, le_operator, gt_operator, ge_operator}
use Rattle.definition.specs.Grammar.Segments.{no_segment, more_segments}
use Rattle.definition.specs.Grammar.Segment.{child_brackets, child_wild, child_name, descendant_brackets, descendant_wild, descendant_name}
use Rattle.definition.specs.Grammar.Bracketed.{bracketed}
use Rattle.definition.specs.Grammar.Selectors.{no_selector, more_selectors}
use Rattle.definition.specs.Grammar.Selector.{name_selector, wildcard_selector, slice_selector, index_selector, filter_selector}
use Rattle.definition.specs.Grammar.LogicalOr.{logical_or}
use Rattle.definition.specs.Grammar.MoreOr.{no_or, more_or}
use Rattle.definition.specs.Grammar.LogicalAnd.{logical_and}
use Rattle.definition.specs.Grammar.MoreAnd.{no_and, more_and}
use Rattle.definition.specs.Grammar.Basic.{paren_basic, not_paren, comparison, test_basic, not_test}
use Rattle.definition.specs.Grammar.Paren.{paren}
use Rattle.definition.specs.Grammar.Test.{query_test, function_test}
use Rattle.definition.specs.Grammar.FilterQuery.{rel_query, abs_query}
use Rattle.definition.specs.Grammar.Comparable.{literal_comparable, singular_comparable, function_comparable}
use Rattle.definition.specs.Grammar.Function.{function}
use Rattle.definition_examples.specs.Texts.{bytes}
use Rattle.basics.specs.Lists.{cons_not}
use Rattle.basics.specs.Bools.{and_left as left, and_right as right, or_true}

-- ---- lists of bytes

-- the first byte, and the first that is no blank; 0 where there is none
abbrev pub hd : List ℕ → ℕ
hd [] = 0
hd (c ∷ s) = c

abbrev pub tl : List ℕ → List ℕ
tl [] = []
tl (c ∷ s) = s

abbrev pub first : List ℕ → ℕ
first [] = 0
first (c ∷ s) = cond (is_blank c) (first s) c

-- a test tells two lists apart
pub apart : (f : List ℕ → Bool) {s t : List ℕ} → f s ≡ true → f t ≡ false → s ≡ t → ⊥
apart f a b e = true≢false (sym a ∙ ap f e ∙ b)

-- so does the first byte
pub unlike : (p : ℕ → Bool) {s t : List ℕ} → p (hd s) ≡ true → p (hd t) ≡ false → s ≡ t → ⊥
unlike p a b e = apart (λ l. p (hd l)) a b e

pub is_empty : List ℕ → Bool
is_empty [] = true
is_empty (c ∷ s) = false

-- ---- blanks

-- no blank is before a byte that is none
pub unblanked : (b : Blanks) {r s : List ℕ} → is_blank (hd s) ≡ false → spell_blanks b r ≡ s → r ≡ s
unblanked b {r} {s} h e = go b.bytes b.good e
  where
    go : (l : List ℕ) → every is_blank l ≡ true → l ++ r ≡ s → r ≡ s
    go [] g e = e
    go (c ∷ l) g e = absurd (true≢false (sym (left (is_blank c) (every is_blank l) g) ∙ ap (λ t. is_blank (hd t)) e ∙ h))

pub first_blanks : (b : Blanks) (r : List ℕ) → first (spell_blanks b r) ≡ first r
first_blanks b r = go b.bytes b.good
  where
    go : (l : List ℕ) → every is_blank l ≡ true → first (l ++ r) ≡ first r
    go [] g = refl
    go (c ∷ l) g = rw (left (is_blank c) (every is_blank l) g) (go l (right (is_blank c) (every is_blank l) g))

-- ---- how parts of a query begin

-- a segment begins with a bracket or a dot
pub segment_start : (p : ℕ → Bool) → p 0x5B ≡ true → p 0x2E ≡ true → (x : G.Segment) (r : List ℕ) → p (first (spell_segment x r)) ≡ true
segment_start p a b (child_brackets (bracketed c x xs d)) r = a
segment_start p a b child_wild r = b
segment_start p a b (child_name n) r = b
segment_start p a b (descendant_brackets x) r = b
segment_start p a b descendant_wild r = b
segment_start p a b (descendant_name n) r = b

pub segments_start : (p : ℕ → Bool) → p 0x5B ≡ true → p 0x2E ≡ true → (xs : G.Segments) (r : List ℕ) → p (first r) ≡ true → p (first (spell_segments xs r)) ≡ true
segments_start p a b no_segment r h = h
segments_start p a b (more_segments c x xs) r h = rw (first_blanks c (spell_segment x (spell_segments xs r))) (segment_start p a b x (spell_segments xs r))

-- what stands behind a selector, a basic expression and a conjunction
pub selectors_start : (p : ℕ → Bool) → p 0x2C ≡ true → (xs : G.Selectors) (r : List ℕ) → p (first r) ≡ true → p (first (spell_selectors xs r)) ≡ true
selectors_start p a no_selector r h = h
selectors_start p a (more_selectors b c x xs) r h = rw (first_blanks b (0x2C ∷ spell_blanks c (spell_selector x (spell_selectors xs r)))) a

pub ands_start : (p : ℕ → Bool) → p 0x26 ≡ true → (xs : G.MoreAnd) (r : List ℕ) → p (first r) ≡ true → p (first (spell_more_and xs r)) ≡ true
ands_start p a no_and r h = h
ands_start p a (more_and b c x xs) r h = rw (first_blanks b (0x26 ∷ 0x26 ∷ spell_blanks c (spell_basic x (spell_more_and xs r)))) a

pub ors_start : (p : ℕ → Bool) → p 0x7C ≡ true → (xs : G.MoreOr) (r : List ℕ) → p (first r) ≡ true → p (first (spell_more_or xs r)) ≡ true
ors_start p a no_or r h = h
ors_start p a (more_or b c x xs) r h = rw (first_blanks b (0x7C ∷ 0x7C ∷ spell_blanks c (spell_logical_and x (spell_more_or xs r)))) a

pub close_start : (p : ℕ → Bool) → p 0x5D ≡ true → (b : Blanks) (r : List ℕ) → p (first (spell_blanks b (0x5D ∷ r))) ≡ true
close_start p a b r = rw (first_blanks b (0x5D ∷ r)) a

-- the bytes that begin a selector
abbrev pub is_selector_byte : ℕ → Bool
is_selector_byte c = is_digit1 c || (eqb c 0x30 || (eqb c 0x2D || (eqb c 0x22 || (eqb c 0x27 || (eqb c 0x2A || (eqb c 0x3A || eqb c 0x3F))))))

pub int_start : (i : Int) (r : List ℕ) → is_selector_byte (hd (spell_int i r)) ≡ true
int_start zero_int r = refl
int_start (plain_int n) r = rw n.is_first refl
int_start (minus_int n) r = refl

pub text_start : (t : Text) (r : List ℕ) → is_selector_byte (hd (spell_text t r)) ≡ true
text_start t r = go t.quote
  where
    go : (q : Quote) → is_selector_byte (own_byte q) ≡ true
    go double = refl
    go single = refl

pub selector_start : (x : G.Selector) (r : List ℕ) → is_selector_byte (hd (spell_selector x r)) ≡ true
selector_start (name_selector t) r = text_start t r
selector_start wildcard_selector r = refl
selector_start (slice_selector s) r = go s.start _
  where
    go : (b : Bound) (l : List ℕ) → is_selector_byte (hd (spell_bound b (0x3A ∷ l))) ≡ true
    go no_bound l = refl
    go (bound i b) l = int_start i _
selector_start (index_selector i) r = int_start i r
selector_start (filter_selector b e) r = refl

-- ---- names

-- the first byte of a character is the character, or above ASCII
pub encode_start : (c b : ℕ) (l : List ℕ) (p : ℕ → Bool) → b < 0x80 → p c ≡ true → p b ≡ false → hd (encode c ++ l) ≡ b → ⊥
unfolding encode
encode_start c b l p k h g e = go (ltb c 0x80) (ltb c 0x800) (ltb c 0x10000) e
  where
    go : (t u v : Bool)
        → hd (cond t (c ∷ [])
        (cond u ((0xC0 + c / 64) ∷ (0x80 + c % 64) ∷ [])
        (cond v ((0xE0 + c / 4096) ∷ (0x80 + c / 64 % 64) ∷ (0x80 + c % 64) ∷ [])
        ((0xF0 + c / 262144) ∷ (0x80 + c / 4096 % 64) ∷ (0x80 + c / 64 % 64) ∷ (0x80 + c % 64) ∷ [])))
        ++ l) ≡ b → ⊥
    go true u v e = true≢false (sym h ∙ ap p e ∙ g)
    go false true v e = omega (arith, e)
    go false false true e = omega (arith, e)
    go false false false e = omega (arith, e)

-- a character of one byte takes one byte
pub encode_rest : (c b : ℕ) (l s : List ℕ) → b < 0x80 → encode c ++ l ≡ b ∷ s → l ≡ s
unfolding encode
encode_rest c b l s k e = go (ltb c 0x80) (ltb c 0x800) (ltb c 0x10000) e
  where
    go : (t u v : Bool)
        → (cond t (c ∷ [])
        (cond u ((0xC0 + c / 64) ∷ (0x80 + c % 64) ∷ [])
        (cond v ((0xE0 + c / 4096) ∷ (0x80 + c / 64 % 64) ∷ (0x80 + c % 64) ∷ [])
        ((0xF0 + c / 262144) ∷ (0x80 + c / 4096 % 64) ∷ (0x80 + c / 64 % 64) ∷ (0x80 + c % 64) ∷ [])))
        ++ l) ≡ b ∷ s → l ≡ s
    go true u v e = ap tl e
    go false true v e = absurd (omega (arith, ap hd e))
    go false false true e = absurd (omega (arith, ap hd e))
    go false false false e = absurd (omega (arith, ap hd e))

-- no name begins with a byte that is no name's
pub name_start : (n : Name) (r s : List ℕ) → hd s < 0x80 → is_name_first (hd s) ≡ false → name_bytes n ++ r ≡ s → ⊥
name_start n r s k g e = encode_start n.first (hd s) (encode_all n.more ++ r) is_name_first k n.is_first g (ap hd (sym (append_assoc (encode n.first) (encode_all n.more) r) ∙ e))

-- ---- filters that begin with `@`: what may begin so, and what may follow

-- what may stand behind a basic expression of a filter, and behind a segment in it
abbrev pub ends_basic : ℕ → Bool
ends_basic c = eqb c 0x26 || (eqb c 0x7C || (eqb c 0x2C || eqb c 0x5D))

abbrev pub ends_segment : ℕ → Bool
ends_segment c = ends_basic c || (eqb c 0x5B || eqb c 0x2E)

-- the operators begin so
abbrev pub is_operator_byte : ℕ → Bool
is_operator_byte c = eqb c 0x3D || (eqb c 0x21 || (eqb c 0x3C || eqb c 0x3E))

pub operator_start : (o : G.Operator) (r : List ℕ) → is_operator_byte (first (spell_operator o r)) ≡ true
operator_start eq_operator r = refl
operator_start ne_operator r = refl
operator_start lt_operator r = refl
operator_start le_operator r = refl
operator_start gt_operator r = refl
operator_start ge_operator r = refl

-- a whole number begins with a digit or a minus
abbrev pub is_number_byte : ℕ → Bool
is_number_byte c = is_digit1 c || (eqb c 0x30 || eqb c 0x2D)

pub int_number : (i : Int) (r : List ℕ) → is_number_byte (hd (spell_int i r)) ≡ true
int_number zero_int r = refl
int_number (plain_int n) r = rw n.is_first refl
int_number (minus_int n) r = refl

pub whole_number : (w : Whole) (r : List ℕ) → is_number_byte (hd (spell_whole w r)) ≡ true
whole_number (int_whole i) r = int_number i r
whole_number minus_zero r = refl

-- the bytes that begin what is compared
abbrev pub is_comparable_byte : ℕ → Bool
is_comparable_byte c = is_lcalpha c || (is_number_byte c || (eqb c 0x22 || (eqb c 0x27 || (eqb c 0x40 || eqb c 0x24))))

pub comparable_start : (x : G.Comparable) (r : List ℕ) → is_comparable_byte (hd (spell_comparable x r)) ≡ true
comparable_start (literal_comparable (number_literal n)) r = rw (whole_number n.whole (spell_fraction n.frac (spell_exponent n.exp r))) (or_true (is_lcalpha (hd (spell_whole n.whole (spell_fraction n.frac (spell_exponent n.exp r))))))
comparable_start (literal_comparable (text_literal t)) r = go t.quote
  where
    go : (q : Quote) → is_comparable_byte (own_byte q) ≡ true
    go double = refl
    go single = refl
comparable_start (literal_comparable true_literal) r = refl
comparable_start (literal_comparable false_literal) r = refl
comparable_start (literal_comparable null_literal) r = refl
comparable_start (singular_comparable (rel_singular xs)) r = refl
comparable_start (singular_comparable (abs_singular xs)) r = refl
comparable_start (function_comparable (function n b xs c)) r = rw n.is_first refl

-- `@` and the bytes l behind it
module _ (l : List ℕ) where
  pub not_at : (c : ℕ) → eqb c 0x40 ≡ false → {r : List ℕ} → c ∷ r ≡ 0x40 ∷ l → ⊥
  not_at c h e = true≢false (ap (λ m. eqb (hd m) 0x40) (sym e) ∙ h)

  -- no literal and no function begins with `@`
  pub no_literal : (x : G.Literal) (r : List ℕ) → spell_literal x r ≡ 0x40 ∷ l → ⊥
  no_literal (number_literal n) r e = unlike is_number_byte (whole_number n.whole _) refl e
  no_literal (text_literal t) r e = go t.quote e
    where
      go : (q : Quote) {r : List ℕ} → own_byte q ∷ r ≡ 0x40 ∷ l → ⊥
      go double e = not_at 0x22 refl e
      go single e = not_at 0x27 refl e
  no_literal true_literal r e = not_at 0x74 refl e
  no_literal false_literal r e = not_at 0x66 refl e
  no_literal null_literal r e = not_at 0x6E refl e

  pub no_function_lem : (f : G.Function) (r : List ℕ) → spell_function f r ≡ 0x40 ∷ l → ⊥
  no_function_lem (function n b xs c) r e = true≢false (sym n.is_first ∙ ap (λ m. is_lcalpha (hd m)) e)

  -- a comparison begins with a singular query, a test with a query
  pub from_comparable : (x : G.Comparable) (r : List ℕ) → ((xs : G.SingularSegments) → spell_singular_segments xs r ≡ l → ⊥) → spell_comparable x r ≡ 0x40 ∷ l → ⊥
  from_comparable (literal_comparable x) r k e = no_literal x r e
  from_comparable (function_comparable f) r k e = no_function_lem f r e
  from_comparable (singular_comparable (abs_singular xs)) r k e = not_at 0x24 refl e
  from_comparable (singular_comparable (rel_singular xs)) r k e = k xs (ap tl e)

  pub from_test : (t : G.Test) (r : List ℕ) → ((xs : G.Segments) → spell_segments xs r ≡ l → ⊥) → spell_test t r ≡ 0x40 ∷ l → ⊥
  from_test (function_test f) r k e = no_function_lem f r e
  from_test (query_test (abs_query xs)) r k e = not_at 0x24 refl e
  from_test (query_test (rel_query xs)) r k e = k xs (ap tl e)

  -- so does a basic expression: what is left are the bytes behind `@`, of both
  pub from_basic : (x : G.Basic) (r : List ℕ)
      → ((xs : G.SingularSegments) (b c : Blanks) (o : G.Operator) (y : G.Comparable) → spell_singular_segments xs (spell_blanks b (spell_operator o (spell_blanks c (spell_comparable y r)))) ≡ l → ⊥)
      → ((xs : G.Segments) → spell_segments xs r ≡ l → ⊥)
      → spell_basic x r ≡ 0x40 ∷ l → ⊥
  from_basic (paren_basic (paren b x c)) r k m e = not_at 0x28 refl e
  from_basic (not_paren b p) r k m e = not_at 0x21 refl e
  from_basic (comparison x b o c y) r k m e = from_comparable x (spell_blanks b (spell_operator o (spell_blanks c (spell_comparable y r)))) (λ xs. k xs b c o y) e
  from_basic (test_basic t) r k m e = from_test t r m e
  from_basic (not_test b t) r k m e = not_at 0x21 refl e

  -- Where neither a comparison nor a test goes on with l behind `@`, no tree spells `$[?@l`.
  pub from_query : (t : G.Query)
      → ((xs : G.SingularSegments) (b c : Blanks) (o : G.Operator) (y : G.Comparable) (r : List ℕ) → spell_singular_segments xs (spell_blanks b (spell_operator o (spell_blanks c (spell_comparable y r)))) ≡ l → ⊥)
      → ((xs : G.Segments) (r : List ℕ) → ends_basic (first r) ≡ true → spell_segments xs r ≡ l → ⊥)
      → spell t ≡ 0x24 ∷ 0x5B ∷ 0x3F ∷ 0x40 ∷ l → ⊥
  from_query t k m e = go t.segments (ap tl e)
    where
      quoted : (q : Quote) {r : List ℕ} → own_byte q ∷ r ≡ 0x3F ∷ 0x40 ∷ l → ⊥
      quoted double e = unlike (eqb 0x22) refl refl e
      quoted single e = unlike (eqb 0x27) refl refl e

      sliced : (b : Bound) (r : List ℕ) → spell_bound b (0x3A ∷ r) ≡ 0x3F ∷ 0x40 ∷ l → ⊥
      sliced no_bound r e = unlike (eqb 0x3A) refl refl e
      sliced (bound i b) r e = unlike is_number_byte (int_number i _) refl e

      selected : (x : G.Selector) (r : List ℕ) → ends_basic (first r) ≡ true → spell_selector x r ≡ 0x3F ∷ 0x40 ∷ l → ⊥
      selected (name_selector t) r a e = quoted t.quote e
      selected wildcard_selector r a e = unlike (eqb 0x2A) refl refl e
      selected (slice_selector x) r a e = sliced x.start _ e
      selected (index_selector i) r a e = unlike is_number_byte (int_number i r) refl e
      selected (filter_selector b (logical_or (logical_and x u) v)) r a e =
          let s = spell_more_and u (spell_more_or v r) in
          from_basic x s (λ xs b c o y. k xs b c o y s) (λ xs. m xs s (ands_start ends_basic refl u (spell_more_or v r) (ors_start ends_basic refl v r a))) (unblanked b refl (ap tl e))

      at : (x : G.Segment) (r : List ℕ) → spell_segment x r ≡ 0x5B ∷ 0x3F ∷ 0x40 ∷ l → ⊥
      at (child_brackets (bracketed b x ys c)) r e = selected x (spell_selectors ys (spell_blanks c (0x5D ∷ r))) (selectors_start ends_basic refl ys (spell_blanks c (0x5D ∷ r)) (close_start ends_basic refl c r)) (unblanked b refl (ap tl e))
      at child_wild r e = unlike (eqb 0x2E) refl refl e
      at (child_name n) r e = unlike (eqb 0x2E) refl refl e
      at (descendant_brackets x) r e = unlike (eqb 0x2E) refl refl e
      at descendant_wild r e = unlike (eqb 0x2E) refl refl e
      at (descendant_name n) r e = unlike (eqb 0x2E) refl refl e

      go : (xs : G.Segments) → spell_segments xs [] ≡ 0x5B ∷ 0x3F ∷ 0x40 ∷ l → ⊥
      go no_segment e = cons_not (sym e)
      go (more_segments b x xs) e = at x (spell_segments xs []) (unblanked b refl e)

-- singular segments begin as segments do
pub singulars_start : (p : ℕ → Bool) → p 0x5B ≡ true → p 0x2E ≡ true → (xs : G.SingularSegments) (r : List ℕ) → p (first r) ≡ true → p (first (spell_singular_segments xs r)) ≡ true
singulars_start p a b no_singular r h = h
singulars_start p a b (more_singular c x xs) r h = rw (first_blanks c (spell_singular_segment x (spell_singular_segments xs r))) (go x)
  where
    go : (x : G.SingularSegment) → p (first (spell_singular_segment x (spell_singular_segments xs r))) ≡ true
    go (name_segment t) = a
    go (dot_segment n) = b
    go (index_segment i) = a

-- behind the first side of a comparison: a segment or an operator
abbrev pub goes_on : ℕ → Bool
goes_on c = is_operator_byte c || (eqb c 0x5B || eqb c 0x2E)

pub compared_start : (xs : G.SingularSegments) (b : Blanks) (o : G.Operator) (s : List ℕ) → goes_on (first (spell_singular_segments xs (spell_blanks b (spell_operator o s)))) ≡ true
compared_start xs b o s = singulars_start goes_on refl refl xs (spell_blanks b (spell_operator o s)) (rw (first_blanks b (spell_operator o s), operator_start o s) refl)
