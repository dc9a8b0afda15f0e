-- Queries that no tree of the grammar spells, so that they are refused 4: shown by going through the trees, byte by byte.
use Rattle.std.specs.Prelude.{ℕ, ◌≡◌, refl, List, [], ◌∷◌, ◌++◌, Bool, true, false, ◌||◌, eqb}
use Rattle.std.proofs.Common.{sym, ap, ◌∙◌, append_assoc, true≢false, lit<}
use Rattle.definition.specs.Bytes.{every}
use Rattle.definition.specs.Utf8.{encode, encode_all}
use Rattle.definition.specs.Lexical.{Blanks, Int, Quote, Bound, is_blank, is_digit1, is_name_char, own_byte, spell_blanks, spell_int, spell_bound}
use Rattle.definition.specs.Lexical.Int.{zero_int, plain_int, minus_int}
use Rattle.definition.specs.Lexical.Quote.{double, single}
use Rattle.definition.specs.Lexical.Bound.{no_bound, bound}
use Rattle.definition.specs.Grammar as G
use Rattle.definition.specs.Grammar.{spell, spell_segments, spell_segment, spell_selectors, spell_selector, spell_comparable, spell_operator, spell_singular_segment, spell_singular_segments}
use Rattle.definition.specs.Grammar.SingularSegment.{name_segment, dot_segment, index_segment}
use Rattle.definition.specs.Grammar.SingularSegments.{no_singular, more_singular}
use Rattle.definition.specs.Grammar.Operator.{eq_operator, ne_operator, lt_operator, le_operator, gt_operator, ge_operator}
use Rattle.definition.specs.Grammar.Segments.{no_segment, more_segments}
use Rattle.definition.specs.Grammar.Segment.{child_brackets, child_wild, child_name, descendant_brackets, descendant_wild, descendant_name}
use Rattle.definition.specs.Grammar.Bracketed.{bracketed}
use Rattle.definition.specs.Grammar.Selector.{name_selector, wildcard_selector, slice_selector, index_selector, filter_selector}
use Rattle.definition.specs.Selecting.{Reads, no_tree}
use Rattle.definition.specs.Selecting.Reading.{refused}
use Rattle.definition_examples.specs.Computes.{computes}
use Rattle.definition_examples.specs.Texts.{codes, bytes}
use Rattle.definition_examples.specs.Starts.{hd, tl, first, apart, unlike, unblanked, first_blanks, segment_start, segments_start, selectors_start, close_start, is_selector_byte, selector_start, encode_start, encode_rest, name_start, ends_basic, ends_segment, is_operator_byte, operator_start, is_comparable_byte, comparable_start, from_query, goes_on, compared_start}
use Rattle.basics.specs.Lists.{cons_not}
use Rattle.basics.specs.Bools.{and_left as left}

-- ---- `$ `, `$.`, `$.a[`

abbrev is_segment_byte : ℕ → Bool
is_segment_byte c = eqb c 0x5B || eqb c 0x2E

no_blank_end : (t : G.Query) → spell t ≡ 0x24 ∷ 0x20 ∷ [] → ⊥
no_blank_end t e = go t.segments (ap tl e)
  where
    go : (xs : G.Segments) → spell_segments xs [] ≡ 0x20 ∷ [] → ⊥
    go no_segment e = cons_not (sym e)
    go (more_segments b x xs) e = apart (λ l. is_segment_byte (first l)) (rw (first_blanks b (spell_segment x (spell_segments xs []))) (segment_start is_segment_byte refl refl x (spell_segments xs []))) refl e

no_dot_end : (t : G.Query) → spell t ≡ 0x24 ∷ 0x2E ∷ [] → ⊥
no_dot_end t e = go t.segments (ap tl e)
  where
    at : (x : G.Segment) (r : List ℕ) → spell_segment x r ≡ 0x2E ∷ [] → ⊥
    at (child_brackets (bracketed b x xs c)) r e = unlike (eqb 0x5B) refl refl e
    at child_wild r e = cons_not (ap tl e)
    at (child_name n) r e = name_start n r [] (lit< tt) refl (ap tl e)
    at (descendant_brackets x) r e = cons_not (ap tl e)
    at descendant_wild r e = cons_not (ap tl e)
    at (descendant_name n) r e = cons_not (ap tl e)

    go : (xs : G.Segments) → spell_segments xs [] ≡ 0x2E ∷ [] → ⊥
    go no_segment e = cons_not (sym e)
    go (more_segments b x xs) e = at x (spell_segments xs []) (unblanked b refl e)

no_open_end : (t : G.Query) → spell t ≡ 0x24 ∷ 0x2E ∷ 0x61 ∷ 0x5B ∷ [] → ⊥
unfolding encode_all
no_open_end t e = go t.segments (ap tl e)
  where
    opened : (x : G.Segment) (r : List ℕ) → spell_segment x r ≡ 0x5B ∷ [] → ⊥
    opened (child_brackets (bracketed b x xs c)) r e = unlike is_selector_byte (selector_start x _) refl (unblanked b refl (ap tl e))
    opened child_wild r e = unlike (eqb 0x2E) refl refl e
    opened (child_name n) r e = unlike (eqb 0x2E) refl refl e
    opened (descendant_brackets x) r e = unlike (eqb 0x2E) refl refl e
    opened descendant_wild r e = unlike (eqb 0x2E) refl refl e
    opened (descendant_name n) r e = unlike (eqb 0x2E) refl refl e

    behind : (xs : G.Segments) → spell_segments xs [] ≡ 0x5B ∷ [] → ⊥
    behind no_segment e = cons_not (sym e)
    behind (more_segments b x xs) e = opened x (spell_segments xs []) (unblanked b refl e)

    more : (cs : List ℕ) → every is_name_char cs ≡ true → (xs : G.Segments) → encode_all cs ++ spell_segments xs [] ≡ 0x5B ∷ [] → ⊥
    more [] h xs e = behind xs e
    more (c ∷ cs) h xs e = encode_start c 0x5B (encode_all cs ++ spell_segments xs []) is_name_char (lit< tt) (left (is_name_char c) (every is_name_char cs) h) refl (ap hd (sym (append_assoc (encode c) (encode_all cs) (spell_segments xs [])) ∙ e))

    at : (x : G.Segment) (xs : G.Segments) → spell_segment x (spell_segments xs []) ≡ 0x2E ∷ 0x61 ∷ 0x5B ∷ [] → ⊥
    at (child_brackets (bracketed b y ys c)) xs e = unlike (eqb 0x5B) refl refl e
    at child_wild xs e = unlike (eqb 0x2A) refl refl (ap tl e)
    at (child_name n) xs e =
        more n.more n.are_more xs
        (encode_rest n.first 0x61 (encode_all n.more ++ spell_segments xs []) (0x5B ∷ []) (lit< tt) (sym (append_assoc (encode n.first) (encode_all n.more) (spell_segments xs [])) ∙ ap tl e))
    at (descendant_brackets x) xs e = unlike (eqb 0x2E) refl refl (ap tl e)
    at descendant_wild xs e = unlike (eqb 0x2E) refl refl (ap tl e)
    at (descendant_name n) xs e = unlike (eqb 0x2E) refl refl (ap tl e)

    go : (xs : G.Segments) → spell_segments xs [] ≡ 0x2E ∷ 0x61 ∷ 0x5B ∷ [] → ⊥
    go no_segment e = cons_not (sym e)
    go (more_segments b x xs) e = at x xs (unblanked b refl e)

-- ---- `$[01]`, `$[-0]`: an index or a slice begins with a whole number

-- a whole number, and behind it a colon, a comma or a bracket
abbrev ends_int : ℕ → Bool
ends_int c = eqb c 0x3A || (eqb c 0x2C || eqb c 0x5D)

-- the bytes of whole numbers
abbrev is_int_byte : ℕ → Bool
is_int_byte c = eqb c 0x30 || eqb c 0x2D

-- What begins with `[0` or `[-` has a whole number there.
bracket_int : (xs : G.Segments) (s : List ℕ) → is_int_byte (hd s) ≡ true → is_blank (hd s) ≡ false → spell_segments xs [] ≡ 0x5B ∷ s
    → ((i : Int) (r : List ℕ) → ends_int (first r) ≡ true → spell_int i r ≡ s → ⊥) → ⊥
bracket_int xs s h g e k = go xs e
  where
    plain : (c : ℕ) {r : List ℕ} → is_int_byte c ≡ false → c ∷ r ≡ s → ⊥
    plain c n e = true≢false (sym h ∙ ap (λ l. is_int_byte (hd l)) (sym e) ∙ n)

    quoted : (q : Quote) {r : List ℕ} → own_byte q ∷ r ≡ s → ⊥
    quoted double e = plain 0x22 refl e
    quoted single e = plain 0x27 refl e

    sliced : (b : Bound) (r : List ℕ) → spell_bound b (0x3A ∷ r) ≡ s → ⊥
    sliced no_bound r e = plain 0x3A refl e
    sliced (bound i b) r e = k i (spell_blanks b (0x3A ∷ r)) (rw (first_blanks b (0x3A ∷ r)) refl) e

    selected : (x : G.Selector) (r : List ℕ) → ends_int (first r) ≡ true → spell_selector x r ≡ s → ⊥
    selected (name_selector t) r a e = quoted t.quote e
    selected wildcard_selector r a e = plain 0x2A refl e
    selected (slice_selector x) r a e = sliced x.start _ e
    selected (index_selector i) r a e = k i r a e
    selected (filter_selector b x) r a e = plain 0x3F refl e

    at : (x : G.Segment) (r : List ℕ) → spell_segment x r ≡ 0x5B ∷ s → ⊥
    at (child_brackets (bracketed b x ys c)) r e = selected x (spell_selectors ys (spell_blanks c (0x5D ∷ r))) (selectors_start ends_int refl ys (spell_blanks c (0x5D ∷ r)) (close_start ends_int refl c r)) (unblanked b g (ap tl e))
    at child_wild r e = unlike (eqb 0x2E) refl refl e
    at (child_name n) r e = unlike (eqb 0x2E) refl refl e
    at (descendant_brackets x) r e = unlike (eqb 0x2E) refl refl e
    at descendant_wild r e = unlike (eqb 0x2E) refl refl e
    at (descendant_name n) r e = unlike (eqb 0x2E) refl refl e

    go : (xs : G.Segments) → spell_segments xs [] ≡ 0x5B ∷ s → ⊥
    go no_segment e = cons_not (sym e)
    go (more_segments b x xs) e = at x (spell_segments xs []) (unblanked b refl e)

no_leading_zero : (t : G.Query) → spell t ≡ 0x24 ∷ 0x5B ∷ 0x30 ∷ 0x31 ∷ 0x5D ∷ [] → ⊥
no_leading_zero t e = bracket_int t.segments (0x30 ∷ 0x31 ∷ 0x5D ∷ []) refl refl (ap tl e) int
  where
    int : (i : Int) (r : List ℕ) → ends_int (first r) ≡ true → spell_int i r ≡ 0x30 ∷ 0x31 ∷ 0x5D ∷ [] → ⊥
    int zero_int r a e = apart (λ l. ends_int (first l)) a refl (ap tl e)
    int (plain_int n) r a e = true≢false (sym n.is_first ∙ ap (λ l. is_digit1 (hd l)) e)
    int (minus_int n) r a e = unlike (eqb 0x2D) refl refl e

no_minus_zero : (t : G.Query) → spell t ≡ 0x24 ∷ 0x5B ∷ 0x2D ∷ 0x30 ∷ 0x5D ∷ [] → ⊥
no_minus_zero t e = bracket_int t.segments (0x2D ∷ 0x30 ∷ 0x5D ∷ []) refl refl (ap tl e) int
  where
    int : (i : Int) (r : List ℕ) → ends_int (first r) ≡ true → spell_int i r ≡ 0x2D ∷ 0x30 ∷ 0x5D ∷ [] → ⊥
    int zero_int r a e = unlike (eqb 0x30) refl refl e
    int (plain_int n) r a e = true≢false (sym n.is_first ∙ ap (λ l. is_digit1 (hd l)) e)
    int (minus_int n) r a e = true≢false (sym n.is_first ∙ ap (λ l. is_digit1 (hd (tl l))) e)

-- A filter in which `@` is followed by a byte that begins neither a segment nor an operator, and closes nothing.
no_word : (c : ℕ) (s : List ℕ) (t : G.Query) → is_blank c ≡ false → goes_on c ≡ false → ends_segment c ≡ false → spell t ≡ 0x24 ∷ 0x5B ∷ 0x3F ∷ 0x40 ∷ 0x20 ∷ c ∷ s → ⊥
no_word c s t n g h e =
    from_query (0x20 ∷ c ∷ s) t
    (λ xs b d o y r f. apart (λ m. goes_on (first m)) (compared_start xs b o (spell_blanks d (spell_comparable y r))) (rw n g) f)
    (λ xs r a f. apart (λ m. ends_segment (first m)) (segments_start ends_segment refl refl xs r (rw a refl)) (rw n h) f)
    e

-- ---- `$[?@.*==1]`: what is compared is a literal, a singular query or a function

no_wild_compared : (t : G.Query) → spell t ≡ 0x24 ∷ 0x5B ∷ 0x3F ∷ 0x40 ∷ 0x2E ∷ 0x2A ∷ 0x3D ∷ 0x3D ∷ 0x31 ∷ 0x5D ∷ [] → ⊥
no_wild_compared t e = from_query (0x2E ∷ 0x2A ∷ 0x3D ∷ 0x3D ∷ 0x31 ∷ 0x5D ∷ []) t (λ xs b c o y r f. compared xs b o (spell_blanks c (spell_comparable y r)) f) (λ xs r a f. tested xs r a f) e
  where
    singular : (x : G.SingularSegment) (r : List ℕ) → spell_singular_segment x r ≡ 0x2E ∷ 0x2A ∷ 0x3D ∷ 0x3D ∷ 0x31 ∷ 0x5D ∷ [] → ⊥
    singular (name_segment t) r e = unlike (eqb 0x5B) refl refl e
    singular (dot_segment n) r e = name_start n r (0x2A ∷ 0x3D ∷ 0x3D ∷ 0x31 ∷ 0x5D ∷ []) (lit< tt) refl (ap tl e)
    singular (index_segment i) r e = unlike (eqb 0x5B) refl refl e

    compared : (xs : G.SingularSegments) (b : Blanks) (o : G.Operator) (s : List ℕ) → spell_singular_segments xs (spell_blanks b (spell_operator o s)) ≡ 0x2E ∷ 0x2A ∷ 0x3D ∷ 0x3D ∷ 0x31 ∷ 0x5D ∷ [] → ⊥
    compared no_singular b o s e = apart (λ m. is_operator_byte (first m)) (rw (first_blanks b (spell_operator o s)) (operator_start o s)) refl e
    compared (more_singular c x xs) b o s e = singular x (spell_singular_segments xs (spell_blanks b (spell_operator o s))) (unblanked c refl e)

    behind : (xs : G.Segments) (r : List ℕ) → ends_basic (first r) ≡ true → spell_segments xs r ≡ 0x3D ∷ 0x3D ∷ 0x31 ∷ 0x5D ∷ [] → ⊥
    behind xs r a e = apart (λ m. ends_segment (first m)) (segments_start ends_segment refl refl xs r (rw a refl)) refl e

    at : (x : G.Segment) (xs : G.Segments) (r : List ℕ) → ends_basic (first r) ≡ true → spell_segment x (spell_segments xs r) ≡ 0x2E ∷ 0x2A ∷ 0x3D ∷ 0x3D ∷ 0x31 ∷ 0x5D ∷ [] → ⊥
    at (child_brackets (bracketed b y ys c)) xs r a e = unlike (eqb 0x5B) refl refl e
    at child_wild xs r a e = behind xs r a (ap (λ m. tl (tl m)) e)
    at (child_name n) xs r a e = name_start n (spell_segments xs r) (0x2A ∷ 0x3D ∷ 0x3D ∷ 0x31 ∷ 0x5D ∷ []) (lit< tt) refl (ap tl e)
    at (descendant_brackets x) xs r a e = unlike (eqb 0x2E) refl refl (ap tl e)
    at descendant_wild xs r a e = unlike (eqb 0x2E) refl refl (ap tl e)
    at (descendant_name n) xs r a e = unlike (eqb 0x2E) refl refl (ap tl e)

    tested : (xs : G.Segments) (r : List ℕ) → ends_basic (first r) ≡ true → spell_segments xs r ≡ 0x2E ∷ 0x2A ∷ 0x3D ∷ 0x3D ∷ 0x31 ∷ 0x5D ∷ [] → ⊥
    tested no_segment r a e = apart (λ m. ends_basic (first m)) a refl e
    tested (more_segments b x xs) r a e = at x xs r a (unblanked b refl e)

-- ---- `$[?@==[1]]`: nothing that is compared begins with a bracket

no_array : (t : G.Query) → spell t ≡ 0x24 ∷ 0x5B ∷ 0x3F ∷ 0x40 ∷ 0x3D ∷ 0x3D ∷ 0x5B ∷ 0x31 ∷ 0x5D ∷ 0x5D ∷ [] → ⊥
no_array t e = from_query (0x3D ∷ 0x3D ∷ 0x5B ∷ 0x31 ∷ 0x5D ∷ 0x5D ∷ []) t (λ xs b c o y r f. compared xs b c o y r f) (λ xs r a f. tested xs r a f) e
  where
    side : (c : Blanks) (y : G.Comparable) (r : List ℕ) → spell_blanks c (spell_comparable y r) ≡ 0x5B ∷ 0x31 ∷ 0x5D ∷ 0x5D ∷ [] → ⊥
    side c y r e = unlike is_comparable_byte (comparable_start y r) refl (unblanked c refl e)

    operated : (o : G.Operator) (c : Blanks) (y : G.Comparable) (r : List ℕ) → spell_operator o (spell_blanks c (spell_comparable y r)) ≡ 0x3D ∷ 0x3D ∷ 0x5B ∷ 0x31 ∷ 0x5D ∷ 0x5D ∷ [] → ⊥
    operated eq_operator c y r e = side c y r (ap (λ m. tl (tl m)) e)
    operated ne_operator c y r e = unlike (eqb 0x21) refl refl e
    operated lt_operator c y r e = unlike (eqb 0x3C) refl refl e
    operated le_operator c y r e = unlike (eqb 0x3C) refl refl e
    operated gt_operator c y r e = unlike (eqb 0x3E) refl refl e
    operated ge_operator c y r e = unlike (eqb 0x3E) refl refl e

    singular : (x : G.SingularSegment) (r : List ℕ) → is_segment_byte (hd (spell_singular_segment x r)) ≡ true
    singular (name_segment t) r = refl
    singular (dot_segment n) r = refl
    singular (index_segment i) r = refl

    compared : (xs : G.SingularSegments) (b c : Blanks) (o : G.Operator) (y : G.Comparable) (r : List ℕ) → spell_singular_segments xs (spell_blanks b (spell_operator o (spell_blanks c (spell_comparable y r)))) ≡ 0x3D ∷ 0x3D ∷ 0x5B ∷ 0x31 ∷ 0x5D ∷ 0x5D ∷ [] → ⊥
    compared no_singular b c o y r e = operated o c y r (unblanked b refl e)
    compared (more_singular d x xs) b c o y r e = unlike is_segment_byte (singular x (spell_singular_segments xs (spell_blanks b (spell_operator o (spell_blanks c (spell_comparable y r)))))) refl (unblanked d refl e)

    tested : (xs : G.Segments) (r : List ℕ) → ends_basic (first r) ≡ true → spell_segments xs r ≡ 0x3D ∷ 0x3D ∷ 0x5B ∷ 0x31 ∷ 0x5D ∷ 0x5D ∷ [] → ⊥
    tested xs r a e = apart (λ m. ends_segment (first m)) (segments_start ends_segment refl refl xs r (rw a refl)) refl e

-- ---- the rows

pub leading_zero : Reads (bytes "$[01]") (refused 4)
unfolding computes
leading_zero = no_tree refl no_leading_zero

pub minus_zero_index : Reads (bytes "$[-0]") (refused 4)
unfolding computes
minus_zero_index = no_tree refl no_minus_zero

pub blank_end : Reads (bytes "$ ") (refused 4)
unfolding computes
blank_end = no_tree refl no_blank_end

pub open_end : Reads (bytes "$.a[") (refused 4)
unfolding computes
open_end = no_tree refl no_open_end

pub dot_end : Reads (bytes "$.") (refused 4)
unfolding computes
dot_end = no_tree refl no_dot_end

pub wild_compared : Reads (bytes "$[?@.*==1]") (refused 4)
unfolding computes
wild_compared = no_tree refl no_wild_compared

-- "array literals, `contains`, `in` (all three refused 4)"
pub array_literal : Reads (bytes "$[?@==[1]]") (refused 4)
unfolding computes
array_literal = no_tree refl no_array

pub contains_word : Reads (bytes "$[?@ contains 1]") (refused 4)
unfolding computes
contains_word = no_tree refl (λ t e. no_word 0x63 (codes "ontains 1]") t refl refl refl e)

pub in_word : Reads (bytes "$[?@ in $]") (refused 4)
unfolding computes
in_word = no_tree refl (λ t e. no_word 0x69 (codes "n $]") t refl refl refl e)
