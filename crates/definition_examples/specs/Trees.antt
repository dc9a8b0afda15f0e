-- Finds a tree of the grammar for a query's code points, so that a row gives its query as text alone.
-- Nothing rests on this reader: every row also asks that the tree which it finds spells the query.
use Rattle.std.specs.Prelude.{ℕ, zero, suc, ◌≡◌, refl, List, [], ◌∷◌, Bool, true, false, cond, ◌&&◌, ◌||◌, eqb}
use Rattle.std.proofs.Math.Option.{Option, none, some}
use Rattle.definition.specs.Bytes.{every}
use Rattle.definition.specs.Lexical.{Blanks, Name, FunctionName, Natural, Digits, Int, Whole, Fraction, Sign, Exponent, Number, Hex4, Escape, Char, Quote, Text, Bound, Step, Slice, is_blank, is_digit, is_digit1, is_lcalpha, is_name_first, is_name_char, is_function_char, is_unescaped, is_hex, is_e, is_short, is_high, is_low, hex4_value, own_byte, other_byte}
use Rattle.definition.specs.Lexical.Int.{zero_int, plain_int, minus_int}
use Rattle.definition.specs.Lexical.Whole.{int_whole, minus_zero}
use Rattle.definition.specs.Lexical.Fraction.{no_fraction, fraction}
use Rattle.definition.specs.Lexical.Sign.{no_sign, plus_sign, minus_sign}
use Rattle.definition.specs.Lexical.Exponent.{no_exponent, exponent}
use Rattle.definition.specs.Lexical.Escape.{short, unicode, pair}
use Rattle.definition.specs.Lexical.Char.{plain, other_quote, own_quote, escape}
use Rattle.definition.specs.Lexical.Quote.{double, single}
use Rattle.definition.specs.Lexical.Bound.{no_bound, bound}
use Rattle.definition.specs.Lexical.Step.{no_step, colon, step}
use Rattle.definition.specs.Grammar as G
use Rattle.definition.specs.Grammar.SingularSegment.{name_segment, dot_segment, index_segment}
use Rattle.definition.specs.Grammar.SingularSegments.{no_singular, more_singular}
use Rattle.definition.specs.Grammar.Singular.{rel_singular, abs_singular}
use Rattle.definition.specs.Grammar.Literal.{number_literal, text_literal, true_literal, false_literal, null_literal}
use Rattle.definition.specs.Grammar.Operator.{eq_operator, ne_operator, lt_operator, le_operator, gt_operator, ge_operator}
use Rattle.definition.specs.Grammar.Segments.{no_segment, more_segments}
use Rattle.definition.specs.Grammar.Segment.{child_brackets, child_wild, child_name, descendant_brackets, descendant_wild, descendant_name}
use Rattle.definition.specs.Grammar.Bracketed.{bracketed}
use Rattle.definition.specs.Grammar.Selectors.{no_selector, more_selectors}
use Rattle.definition.specs.Grammar.Selector.{name_selector, wildcard_selector, slice_selector, index_selector, filter_selector}
use Rattle.definition.specs.Grammar.LogicalOr.{logical_or}
use Rattle.definition.specs.Grammar.MoreOr.{no_or, more_or}
use Rattle.definition.specs.Grammar.LogicalAnd.{logical_and}
use Rattle.definition.specs.Grammar.MoreAnd.{no_and, more_and}
use Rattle.definition.specs.Grammar.Basic.{paren_basic, not_paren, comparison, test_basic, not_test}
use Rattle.definition.specs.Grammar.Paren.{paren}
use Rattle.definition.specs.Grammar.Test.{query_test, function_test}
use Rattle.definition.specs.Grammar.FilterQuery.{rel_query, abs_query}
use Rattle.definition.specs.Grammar.Comparable.{literal_comparable, singular_comparable, function_comparable}
use Rattle.definition.specs.Grammar.Function.{function}
use Rattle.definition.specs.Grammar.Arguments.{no_argument, arguments}
use Rattle.definition.specs.Grammar.MoreArguments.{no_more, more_arguments}
use Rattle.definition.specs.Grammar.Argument.{literal_argument, logical_argument}

-- ---- readers

-- what was read, and the code points behind it
pub record Got (A : Type 0) : Type 0 where
  pub it : A
  pub rest : List ℕ

abbrev pub Reader : Type 0 → Type 0
Reader A = List ℕ → Option (Got A)

abbrev give : {A : Type 0} → A → Reader A
give x s = some (record { it = x; rest = s })

abbrev fail : {A : Type 0} → Reader A
fail s = none

abbrev then : {A B : Type 0} → Reader A → (A → Reader B) → Reader B
then p f s = elim (p s) [ none ↦ none | some g ↦ f g.it g.rest ]

-- the first reader, or the second where the first finds nothing
abbrev or : {A : Type 0} → Reader A → Reader A → Reader A
or p q s = elim (p s) [ none ↦ q s | some g ↦ some g ]

-- what follows where a test holds, or does not, given the proof that it does
abbrev given : {A : Type 0} (b : Bool) → (b ≡ true → Reader A) → Reader A
given true f s = f refl s
given false f s = none

abbrev given_not : {A : Type 0} (b : Bool) → (b ≡ false → Reader A) → Reader A
given_not true f s = none
given_not false f s = f refl s

-- one code point, whichever it is
abbrev one : Reader ℕ
one [] = none
one (c ∷ s) = give c s

-- a certain code point, or several, and what follows
abbrev code : {A : Type 0} → ℕ → Reader A → Reader A
code b k [] = none
code b k (c ∷ s) = cond (eqb c b) (k s) none

abbrev word : {A : Type 0} → List ℕ → Reader A → Reader A
word [] k s = k s
word (b ∷ bs) k s = code b (word bs k) s

-- the longest run of code points of a class
abbrev add : ℕ → Got (List ℕ) → Got (List ℕ)
add c g = record { it = c ∷ g.it; rest = g.rest }

abbrev span : (ℕ → Bool) → List ℕ → Got (List ℕ)
span p [] = record { it = []; rest = [] }
span p (c ∷ s) = cond (p c) (add c (span p s)) (record { it = []; rest = c ∷ s })

abbrev run : (ℕ → Bool) → Reader (List ℕ)
run p s = some (span p s)

-- ---- what does not nest

abbrev blanks : Reader Blanks
blanks = then (run is_blank) (λ b. given (every is_blank b) (λ h. give (record { bytes = b; good = h })))

abbrev name : Reader Name
name = then one (λ c. then (run is_name_char) (λ cs. given (is_name_first c) (λ h. given (every is_name_char cs) (λ k. give (record { first = c; more = cs; is_first = h; are_more = k })))))

abbrev function_name : Reader FunctionName
function_name = then one (λ c. then (run is_function_char) (λ cs. given (is_lcalpha c) (λ h. given (every is_function_char cs) (λ k. give (record { first = c; more = cs; is_first = h; are_more = k })))))

abbrev natural : Reader Natural
natural = then one (λ c. then (run is_digit) (λ cs. given (is_digit1 c) (λ h. given (every is_digit cs) (λ k. give (record { first = c; more = cs; is_first = h; are_more = k })))))

abbrev digits : Reader Digits
digits = then one (λ c. then (run is_digit) (λ cs. given (is_digit c) (λ h. given (every is_digit cs) (λ k. give (record { first = c; more = cs; is_first = h; are_more = k })))))

abbrev int : Reader Int
int = or (code 0x30 (give zero_int)) (or (code 0x2D (then natural (λ n. give (minus_int n)))) (then natural (λ n. give (plain_int n))))

abbrev whole : Reader Whole
whole = or (then int (λ i. give (int_whole i))) (word (0x2D ∷ 0x30 ∷ []) (give minus_zero))

abbrev frac : Reader Fraction
frac = or (code 0x2E (then digits (λ d. give (fraction d)))) (give no_fraction)

abbrev sign : Reader Sign
sign = or (code 0x2B (give plus_sign)) (or (code 0x2D (give minus_sign)) (give no_sign))

abbrev exp : Reader Exponent
exp = or (then one (λ e. given (is_e e) (λ h. then sign (λ s. then digits (λ d. give (exponent e h s d)))))) (give no_exponent)

abbrev number : Reader Number
number = then whole (λ w. then frac (λ f. then exp (λ e. give (record { whole = w; frac = f; exp = e }))))

abbrev hex4 : Reader Hex4
hex4 = then one (λ a. then one (λ b. then one (λ c. then one (λ d. given (is_hex a && (is_hex b && (is_hex c && is_hex d))) (λ h. give (record { a = a; b = b; c = c; d = d; good = h }))))))

-- behind a first `\uXXXX`: a second one that makes a pair, or nothing
abbrev paired : Hex4 → Reader Escape
paired h =
    or (given (is_high (hex4_value h)) (λ g. word (0x5C ∷ 0x75 ∷ []) (then hex4 (λ l. given (is_low (hex4_value l)) (λ k. give (pair h l g k))))))
    (given_not (is_high (hex4_value h) || is_low (hex4_value h)) (λ g. give (unicode h g)))

abbrev escaped : Reader Escape
escaped = or (then one (λ c. given (is_short c) (λ h. give (short c h)))) (code 0x75 (then hex4 paired))

abbrev char : Quote → Reader Char
char q =
    or (code (other_byte q) (give other_quote))
    (or (code 0x5C (or (code (own_byte q) (give own_quote)) (then escaped (λ e. give (escape e)))))
    (then one (λ c. given (is_unescaped c) (λ h. give (plain c h)))))

-- the characters up to the closing quote; f bounds their number
abbrev chars : ℕ → Quote → Reader (List Char)
chars zero q = fail
chars (suc f) q = or (code (own_byte q) (give [])) (then (char q) (λ c. then (chars f q) (λ cs. give (c ∷ cs))))

abbrev quoted : Quote → Reader Text
quoted q = code (own_byte q) (then (chars 1000 q) (λ cs. give (record { quote = q; chars = cs })))

abbrev text : Reader Text
text = or (quoted double) (quoted single)

abbrev bounds : Reader Bound
bounds = or (then int (λ i. then blanks (λ b. give (bound i b)))) (give no_bound)

abbrev steps : Reader Step
steps = or (code 0x3A (or (then blanks (λ b. then int (λ i. give (step b i)))) (give colon))) (give no_step)

abbrev slice : Reader Slice
slice = then bounds (λ a. code 0x3A (then blanks (λ b. then bounds (λ c. then steps (λ d. give (record { start = a; blanks = b; stop = c; by = d }))))))

abbrev singular_segment : Reader G.SingularSegment
singular_segment =
    or (code 0x2E (then name (λ n. give (dot_segment n))))
    (or (code 0x5B (then text (λ t. code 0x5D (give (name_segment t))))) (code 0x5B (then int (λ i. code 0x5D (give (index_segment i))))))

abbrev singular_segments : ℕ → Reader G.SingularSegments
singular_segments zero = fail
singular_segments (suc f) = or (then blanks (λ b. then singular_segment (λ x. then (singular_segments f) (λ xs. give (more_singular b x xs))))) (give no_singular)

abbrev singular : Reader G.Singular
singular = or (code 0x40 (then (singular_segments 1000) (λ xs. give (rel_singular xs)))) (code 0x24 (then (singular_segments 1000) (λ xs. give (abs_singular xs))))

abbrev literal : Reader G.Literal
literal =
    or (then number (λ n. give (number_literal n)))
    (or (then text (λ t. give (text_literal t)))
    (or (word (0x74 ∷ 0x72 ∷ 0x75 ∷ 0x65 ∷ []) (give true_literal))
    (or (word (0x66 ∷ 0x61 ∷ 0x6C ∷ 0x73 ∷ 0x65 ∷ []) (give false_literal)) (word (0x6E ∷ 0x75 ∷ 0x6C ∷ 0x6C ∷ []) (give null_literal)))))

abbrev operator : Reader G.Operator
operator =
    or (word (0x3D ∷ 0x3D ∷ []) (give eq_operator))
    (or (word (0x21 ∷ 0x3D ∷ []) (give ne_operator))
    (or (word (0x3C ∷ 0x3D ∷ []) (give le_operator))
    (or (word (0x3E ∷ 0x3D ∷ []) (give ge_operator)) (or (code 0x3C (give lt_operator)) (code 0x3E (give gt_operator))))))

-- ---- what nests; the number bounds the depth of the calls

abbrev mutual
  segments : ℕ → Reader G.Segments
  segments zero = fail
  segments (suc f) = or (then blanks (λ b. then (segment f) (λ x. then (segments f) (λ xs. give (more_segments b x xs))))) (give no_segment)

  segment : ℕ → Reader G.Segment
  segment zero = fail
  segment (suc f) =
      or (word (0x2E ∷ 0x2E ∷ []) (or (then (brackets f) (λ x. give (descendant_brackets x))) (or (code 0x2A (give descendant_wild)) (then name (λ n. give (descendant_name n))))))
      (or (code 0x2E (or (code 0x2A (give child_wild)) (then name (λ n. give (child_name n))))) (then (brackets f) (λ x. give (child_brackets x))))

  brackets : ℕ → Reader G.Bracketed
  brackets zero = fail
  brackets (suc f) = code 0x5B (then blanks (λ b. then (selector f) (λ x. then (selectors f) (λ xs. then blanks (λ c. code 0x5D (give (bracketed b x xs c)))))))

  selectors : ℕ → Reader G.Selectors
  selectors zero = fail
  selectors (suc f) = or (then blanks (λ b. code 0x2C (then blanks (λ c. then (selector f) (λ x. then (selectors f) (λ xs. give (more_selectors b c x xs))))))) (give no_selector)

  selector : ℕ → Reader G.Selector
  selector zero = fail
  selector (suc f) =
      or (then text (λ t. give (name_selector t)))
      (or (code 0x2A (give wildcard_selector))
      (or (code 0x3F (then blanks (λ b. then (or_expr f) (λ e. give (filter_selector b e)))))
      (or (then slice (λ s. give (slice_selector s))) (then int (λ i. give (index_selector i))))))

  or_expr : ℕ → Reader G.LogicalOr
  or_expr zero = fail
  or_expr (suc f) = then (and_expr f) (λ x. then (ors f) (λ xs. give (logical_or x xs)))

  ors : ℕ → Reader G.MoreOr
  ors zero = fail
  ors (suc f) = or (then blanks (λ b. word (0x7C ∷ 0x7C ∷ []) (then blanks (λ c. then (and_expr f) (λ x. then (ors f) (λ xs. give (more_or b c x xs))))))) (give no_or)

  and_expr : ℕ → Reader G.LogicalAnd
  and_expr zero = fail
  and_expr (suc f) = then (basic f) (λ x. then (ands f) (λ xs. give (logical_and x xs)))

  ands : ℕ → Reader G.MoreAnd
  ands zero = fail
  ands (suc f) = or (then blanks (λ b. word (0x26 ∷ 0x26 ∷ []) (then blanks (λ c. then (basic f) (λ x. then (ands f) (λ xs. give (more_and b c x xs))))))) (give no_and)

  basic : ℕ → Reader G.Basic
  basic zero = fail
  basic (suc f) =
      or (then (comparable f) (λ x. then blanks (λ b. then operator (λ o. then blanks (λ c. then (comparable f) (λ y. give (comparison x b o c y)))))))
      (or (code 0x21 (then blanks (λ b. or (then (parens f) (λ p. give (not_paren b p))) (then (test f) (λ t. give (not_test b t))))))
      (or (then (parens f) (λ p. give (paren_basic p))) (then (test f) (λ t. give (test_basic t)))))

  parens : ℕ → Reader G.Paren
  parens zero = fail
  parens (suc f) = code 0x28 (then blanks (λ b. then (or_expr f) (λ e. then blanks (λ c. code 0x29 (give (paren b e c))))))

  test : ℕ → Reader G.Test
  test zero = fail
  test (suc f) = or (then (filter_query f) (λ q. give (query_test q))) (then (call f) (λ x. give (function_test x)))

  filter_query : ℕ → Reader G.FilterQuery
  filter_query zero = fail
  filter_query (suc f) = or (code 0x40 (then (segments f) (λ xs. give (rel_query xs)))) (code 0x24 (then (segments f) (λ xs. give (abs_query xs))))

  comparable : ℕ → Reader G.Comparable
  comparable zero = fail
  comparable (suc f) =
      or (then (call f) (λ x. give (function_comparable x)))
      (or (then literal (λ l. give (literal_comparable l))) (then singular (λ q. give (singular_comparable q))))

  call : ℕ → Reader G.Function
  call zero = fail
  call (suc f) = then function_name (λ n. code 0x28 (then blanks (λ b. then (argument_list f) (λ xs. then blanks (λ c. code 0x29 (give (function n b xs c)))))))

  argument_list : ℕ → Reader G.Arguments
  argument_list zero = fail
  argument_list (suc f) = or (then (argument f) (λ x. then (furthers f) (λ xs. give (arguments x xs)))) (give no_argument)

  furthers : ℕ → Reader G.MoreArguments
  furthers zero = fail
  furthers (suc f) = or (then blanks (λ b. code 0x2C (then blanks (λ c. then (argument f) (λ x. then (furthers f) (λ xs. give (more_arguments b c x xs))))))) (give no_more)

  argument : ℕ → Reader G.Argument
  argument zero = fail
  argument (suc f) = or (then (or_expr f) (λ e. give (logical_argument e))) (then literal (λ l. give (literal_argument l)))

-- ---- the query: nothing may be left behind it

abbrev when_done : List ℕ → G.Query → Option G.Query
when_done [] q = some q
when_done (c ∷ s) q = none

abbrev pub tree_of : List ℕ → Option G.Query
tree_of s = elim (code 0x24 (segments 1000) s) [ none ↦ none | some g ↦ when_done g.rest (record { segments = g.it }) ]
