-- Every tree of the grammar leaves the bracket count as it was.
use Rattle.std.specs.Prelude.{ℕ, refl, List, [], ◌∷◌}
use Rattle.definition.specs.Grammar as G
use Rattle.definition.specs.Grammar.{spell_segments, spell_segment, spell_bracketed, spell_selectors, spell_selector, spell_logical_or, spell_more_or, spell_logical_and, spell_more_and, spell_basic, spell_paren, spell_test, spell_filter_query, spell_comparable, spell_function, spell_arguments, spell_more_arguments, spell_argument}
use Rattle.definition.specs.Grammar.Segments.{no_segment, more_segments}
use Rattle.definition.specs.Grammar.Segment.{child_brackets, child_wild, child_name, descendant_brackets, descendant_wild, descendant_name}
use Rattle.definition.specs.Grammar.Bracketed.{bracketed}
use Rattle.definition.specs.Grammar.Selectors.{no_selector, more_selectors}
use Rattle.definition.specs.Grammar.Selector.{name_selector, wildcard_selector, slice_selector, index_selector, filter_selector}
use Rattle.definition.specs.Grammar.LogicalOr.{logical_or}
use Rattle.definition.specs.Grammar.MoreOr.{no_or, more_or}
use Rattle.definition.specs.Grammar.LogicalAnd.{logical_and}
use Rattle.definition.specs.Grammar.MoreAnd.{no_and, more_and}
use Rattle.definition.specs.Grammar.Basic.{paren_basic, not_paren, comparison, test_basic, not_test}
use Rattle.definition.specs.Grammar.Paren.{paren}
use Rattle.definition.specs.Grammar.Test.{query_test, function_test}
use Rattle.definition.specs.Grammar.FilterQuery.{rel_query, abs_query}
use Rattle.definition.specs.Grammar.Comparable.{literal_comparable, singular_comparable, function_comparable}
use Rattle.definition.specs.Grammar.Function.{function}
use Rattle.definition.specs.Grammar.Arguments.{no_argument, arguments}
use Rattle.definition.specs.Grammar.MoreArguments.{no_more, more_arguments}
use Rattle.definition.specs.Grammar.Argument.{literal_argument, query_argument, logical_argument, function_argument}
use Rattle.compile_forms.specs.Bracket.{Low, skip, skip_run, open_square, close_square, open_round, close_round}
use Rattle.compile_forms.specs.Leaves.{blanks, name, function_name, int, text, slice, singular, literal, operator}

-- what a tree spells and the rest behind it keep within 32, so the rest does, from the same count on
mutual
  pub segments : (t : G.Segments) {n : ℕ} {r : List ℕ} → Low n (spell_segments t r) → Low n r
  segments no_segment h = h
  segments (more_segments b x xs) h = segments xs (segment x (blanks b h))

  pub segment : (t : G.Segment) {n : ℕ} {r : List ℕ} → Low n (spell_segment t r) → Low n r
  segment (child_brackets x) h = brackets x h
  segment child_wild h = skip_run (0x2E ∷ 0x2A ∷ []) refl h
  segment (child_name t) h = name t (skip 0x2E refl h)
  segment (descendant_brackets x) h = brackets x (skip_run (0x2E ∷ 0x2E ∷ []) refl h)
  segment descendant_wild h = skip_run (0x2E ∷ 0x2E ∷ 0x2A ∷ []) refl h
  segment (descendant_name t) h = name t (skip_run (0x2E ∷ 0x2E ∷ []) refl h)

  pub brackets : (t : G.Bracketed) {n : ℕ} {r : List ℕ} → Low n (spell_bracketed t r) → Low n r
  brackets (bracketed b x xs c) h = close_square (blanks c (selectors xs (selector x (blanks b (open_square h)))))

  pub selectors : (t : G.Selectors) {n : ℕ} {r : List ℕ} → Low n (spell_selectors t r) → Low n r
  selectors no_selector h = h
  selectors (more_selectors b c x xs) h = selectors xs (selector x (blanks c (skip 0x2C refl (blanks b h))))

  pub selector : (t : G.Selector) {n : ℕ} {r : List ℕ} → Low n (spell_selector t r) → Low n r
  selector (name_selector t) h = text t h
  selector wildcard_selector h = skip 0x2A refl h
  selector (slice_selector s) h = slice s h
  selector (index_selector i) h = int i h
  selector (filter_selector b e) h = or_expr e (blanks b (skip 0x3F refl h))

  pub or_expr : (t : G.LogicalOr) {n : ℕ} {r : List ℕ} → Low n (spell_logical_or t r) → Low n r
  or_expr (logical_or x xs) h = ors xs (and_expr x h)

  pub ors : (t : G.MoreOr) {n : ℕ} {r : List ℕ} → Low n (spell_more_or t r) → Low n r
  ors no_or h = h
  ors (more_or b c x xs) h = ors xs (and_expr x (blanks c (skip_run (0x7C ∷ 0x7C ∷ []) refl (blanks b h))))

  pub and_expr : (t : G.LogicalAnd) {n : ℕ} {r : List ℕ} → Low n (spell_logical_and t r) → Low n r
  and_expr (logical_and x xs) h = ands xs (basic x h)

  pub ands : (t : G.MoreAnd) {n : ℕ} {r : List ℕ} → Low n (spell_more_and t r) → Low n r
  ands no_and h = h
  ands (more_and b c x xs) h = ands xs (basic x (blanks c (skip_run (0x26 ∷ 0x26 ∷ []) refl (blanks b h))))

  pub basic : (t : G.Basic) {n : ℕ} {r : List ℕ} → Low n (spell_basic t r) → Low n r
  basic (paren_basic p) h = parens p h
  basic (not_paren b p) h = parens p (blanks b (skip 0x21 refl h))
  basic (comparison x b o c y) h = comparable y (blanks c (operator o (blanks b (comparable x h))))
  basic (test_basic t) h = test t h
  basic (not_test b t) h = test t (blanks b (skip 0x21 refl h))

  pub parens : (t : G.Paren) {n : ℕ} {r : List ℕ} → Low n (spell_paren t r) → Low n r
  parens (paren b e c) h = close_round (blanks c (or_expr e (blanks b (open_round h))))

  pub test : (t : G.Test) {n : ℕ} {r : List ℕ} → Low n (spell_test t r) → Low n r
  test (query_test q) h = filter_query q h
  test (function_test f) h = call f h

  pub filter_query : (t : G.FilterQuery) {n : ℕ} {r : List ℕ} → Low n (spell_filter_query t r) → Low n r
  filter_query (rel_query xs) h = segments xs (skip 0x40 refl h)
  filter_query (abs_query xs) h = segments xs (skip 0x24 refl h)

  pub comparable : (t : G.Comparable) {n : ℕ} {r : List ℕ} → Low n (spell_comparable t r) → Low n r
  comparable (literal_comparable l) h = literal l h
  comparable (singular_comparable q) h = singular q h
  comparable (function_comparable f) h = call f h

  pub call : (t : G.Function) {n : ℕ} {r : List ℕ} → Low n (spell_function t r) → Low n r
  call (function n b xs c) h = close_round (blanks c (argument_list xs (blanks b (open_round (function_name n h)))))

  pub argument_list : (t : G.Arguments) {n : ℕ} {r : List ℕ} → Low n (spell_arguments t r) → Low n r
  argument_list no_argument h = h
  argument_list (arguments x xs) h = furthers xs (argument x h)

  pub furthers : (t : G.MoreArguments) {n : ℕ} {r : List ℕ} → Low n (spell_more_arguments t r) → Low n r
  furthers no_more h = h
  furthers (more_arguments b c x xs) h = furthers xs (argument x (blanks c (skip 0x2C refl (blanks b h))))

  pub argument : (t : G.Argument) {n : ℕ} {r : List ℕ} → Low n (spell_argument t r) → Low n r
  argument (literal_argument l) h = literal l h
  argument (query_argument q) h = filter_query q h
  argument (logical_argument e) h = or_expr e h
  argument (function_argument f) h = call f h
