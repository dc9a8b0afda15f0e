-- The sort of an expression, by its tree alone, and what each sort is judged to be where it stands.
use Rattle.std.specs.Prelude.{ℕ, List, [], ◌∷◌, Bool, true, false, cond, ◌&&◌, eqb, length}
use Rattle.definition.specs.Lexical.{function_bytes, Blanks}
use Rattle.definition.specs.Grammar as G
use Rattle.definition.specs.Grammar.Segments.{no_segment, more_segments}
use Rattle.definition.specs.Grammar.Segment.{child_brackets, child_wild, child_name, descendant_brackets, descendant_wild, descendant_name}
use Rattle.definition.specs.Grammar.Bracketed.{bracketed}
use Rattle.definition.specs.Grammar.Selectors.{no_selector, more_selectors}
use Rattle.definition.specs.Grammar.Selector.{name_selector, wildcard_selector, slice_selector, index_selector, filter_selector}
use Rattle.definition.specs.Grammar.LogicalOr.{logical_or}
use Rattle.definition.specs.Grammar.MoreOr.{no_or, more_or}
use Rattle.definition.specs.Grammar.LogicalAnd.{logical_and}
use Rattle.definition.specs.Grammar.MoreAnd.{no_and, more_and}
use Rattle.definition.specs.Grammar.Basic.{paren_basic, not_paren, comparison, test_basic, not_test}
use Rattle.definition.specs.Grammar.Paren.{paren}
use Rattle.definition.specs.Grammar.Test.{query_test, function_test}
use Rattle.definition.specs.Grammar.FilterQuery.{rel_query, abs_query}
use Rattle.definition.specs.Grammar.Comparable.{literal_comparable, singular_comparable, function_comparable}
use Rattle.definition.specs.Grammar.Function.{function}
use Rattle.definition.specs.Grammar.Arguments.{no_argument, arguments}
use Rattle.definition.specs.Grammar.MoreArguments.{no_more, more_arguments}
use Rattle.definition.specs.Grammar.Argument.{literal_argument, query_argument, logical_argument, function_argument}
use Rattle.definition.specs.Walk.{Named, named}
use Rattle.definition.specs.Walk.Named.{count, value_name, match, search, unknown}

-- a literal; a query that is singular as a form; another query; a value function; something logical
pub data Sort : Type 0 where
  literal_sort : Sort
  singular_sort : Sort
  nodes_sort : Sort
  value_sort : Sort
  logical_sort : Sort

-- ---- singular queries: as a form, and as the grammar's rule spells them, with no blank inside the brackets

unfoldable pub is_plain_selector : G.Selector → Bool
is_plain_selector (name_selector t) = true
is_plain_selector wildcard_selector = false
is_plain_selector (slice_selector s) = false
is_plain_selector (index_selector i) = true
is_plain_selector (filter_selector b e) = false

unfoldable pub is_alone : G.Selectors → Bool
is_alone no_selector = true
is_alone (more_selectors b c x xs) = false

unfoldable pub is_empty : Blanks → Bool
is_empty b = eqb (length b.bytes) 0

unfoldable pub singular_brackets : G.Bracketed → Bool
singular_brackets (bracketed b x xs c) = is_plain_selector x && is_alone xs

unfoldable pub tight_brackets : G.Bracketed → Bool
tight_brackets (bracketed b x xs c) = is_empty b && (is_plain_selector x && (is_alone xs && is_empty c))

unfoldable pub singular_segment : G.Segment → Bool
singular_segment (child_brackets x) = singular_brackets x
singular_segment child_wild = false
singular_segment (child_name n) = true
singular_segment (descendant_brackets x) = false
singular_segment descendant_wild = false
singular_segment (descendant_name n) = false

unfoldable pub tight_segment : G.Segment → Bool
tight_segment (child_brackets x) = tight_brackets x
tight_segment child_wild = false
tight_segment (child_name n) = true
tight_segment (descendant_brackets x) = false
tight_segment descendant_wild = false
tight_segment (descendant_name n) = false

unfoldable pub singular_segments : G.Segments → Bool
singular_segments no_segment = true
singular_segments (more_segments b x xs) = singular_segment x && singular_segments xs

-- whether the segments are those of a singular-query
unfoldable pub tight_segments : G.Segments → Bool
tight_segments no_segment = true
tight_segments (more_segments b x xs) = tight_segment x && tight_segments xs

unfoldable pub query_sort : Bool → Sort
query_sort true = singular_sort
query_sort false = nodes_sort

-- ---- the sorts of expressions

unfoldable pub named_sort : Named → Sort
named_sort count = value_sort
named_sort Named.length = value_sort
named_sort value_name = value_sort
named_sort match = logical_sort
named_sort search = logical_sort
named_sort unknown = logical_sort

unfoldable pub sort_function : G.Function → Sort
sort_function (function n b xs c) = named_sort (named (function_bytes n))

unfoldable pub sort_filter_query : G.FilterQuery → Sort
sort_filter_query (rel_query xs) = query_sort (singular_segments xs)
sort_filter_query (abs_query xs) = query_sort (singular_segments xs)

unfoldable pub sort_test : G.Test → Sort
sort_test (query_test q) = sort_filter_query q
sort_test (function_test f) = sort_function f

-- a chain of more than one operand is logical
unfoldable pub sort_more_and : G.MoreAnd → Sort → Sort
sort_more_and no_and s = s
sort_more_and (more_and b c x xs) s = logical_sort

unfoldable pub sort_more_or : G.MoreOr → Sort → Sort
sort_more_or no_or s = s
sort_more_or (more_or b c x xs) s = logical_sort

unfoldable mutual
  pub sort_or_lem : G.LogicalOr → Sort
  sort_or_lem (logical_or x xs) = sort_more_or xs (sort_and_lem x)

  pub sort_and_lem : G.LogicalAnd → Sort
  sort_and_lem (logical_and x xs) = sort_more_and xs (sort_basic x)

  pub sort_basic : G.Basic → Sort
  sort_basic (paren_basic p) = sort_paren p
  sort_basic (not_paren b p) = logical_sort
  sort_basic (comparison x b o c y) = logical_sort
  sort_basic (test_basic t) = sort_test t
  sort_basic (not_test b t) = logical_sort

  pub sort_paren : G.Paren → Sort
  sort_paren (paren b e c) = sort_or_lem e

unfoldable pub sort_comparable : G.Comparable → Sort
sort_comparable (literal_comparable l) = literal_sort
sort_comparable (singular_comparable q) = singular_sort
sort_comparable (function_comparable f) = sort_function f

unfoldable pub sort_argument : G.Argument → Sort
sort_argument (literal_argument l) = literal_sort
sort_argument (query_argument q) = sort_filter_query q
sort_argument (logical_argument e) = sort_or_lem e
sort_argument (function_argument f) = sort_function f

unfoldable pub sorts_more : G.MoreArguments → List Sort
sorts_more no_more = []
sorts_more (more_arguments b c x xs) = sort_argument x ∷ sorts_more xs

unfoldable pub sorts_of : G.Arguments → List Sort
sorts_of no_argument = []
sorts_of (arguments x xs) = sort_argument x ∷ sorts_more xs

-- ---- verdicts

unfoldable pub value_verdict : Sort → ℕ
value_verdict literal_sort = 0
value_verdict singular_sort = 0
value_verdict nodes_sort = 5
value_verdict value_sort = 0
value_verdict logical_sort = 5

unfoldable pub nodes_verdict : Sort → ℕ
nodes_verdict literal_sort = 5
nodes_verdict singular_sort = 0
nodes_verdict nodes_sort = 0
nodes_verdict value_sort = 5
nodes_verdict logical_sort = 5

-- a value function alone, where that is asked
unfoldable pub compared_verdict : Bool → Sort → ℕ
compared_verdict false s = 0
compared_verdict true literal_sort = 0
compared_verdict true singular_sort = 0
compared_verdict true nodes_sort = 0
compared_verdict true value_sort = 5
compared_verdict true logical_sort = 0

unfoldable pub one_verdict : (Sort → ℕ) → List Sort → ℕ
one_verdict f [] = 5
one_verdict f (s ∷ []) = f s
one_verdict f (s ∷ t ∷ ss) = 5

unfoldable pub two_verdict : List Sort → ℕ
two_verdict [] = 5
two_verdict (s ∷ []) = 5
two_verdict (s ∷ t ∷ []) = cond (eqb (value_verdict s) 0) (value_verdict t) (value_verdict s)
two_verdict (s ∷ t ∷ u ∷ ss) = 5

unfoldable pub call_verdict : Named → List Sort → ℕ
call_verdict count ss = one_verdict nodes_verdict ss
call_verdict Named.length ss = one_verdict value_verdict ss
call_verdict value_name ss = one_verdict nodes_verdict ss
call_verdict match ss = two_verdict ss
call_verdict search ss = two_verdict ss
call_verdict unknown ss = 6
