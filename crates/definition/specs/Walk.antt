-- The walk over a query's tree in the Rust's order (parser.rs): the first of refusals 4, 5 and 6, or the form of the query.
-- The form has no parentheses, blanks or spellings. Besides it the walk tells whether a float literal is beyond the range of literals, for refusal 8.
use Rattle.std.specs.Prelude.{ℕ, List, [], ◌∷◌, Bool, true, false, cond, ◌||◌, ℤ}
use Rattle.std.proofs.Math.Option.{Option, none, some}
use Rattle.regex_definition.specs.Scope.{Scope, whole, part}
use Rattle.definition.specs.Bytes.{same_bytes}
use Rattle.definition.specs.Lexical.{Int, Bound, Step, Slice, name_bytes, function_bytes}
use Rattle.definition.specs.Lexical.Bound.{no_bound, bound}
use Rattle.definition.specs.Lexical.Step.{no_step, colon, step}
use Rattle.definition.specs.Literals.{text_bytes, int_value, in_range, Numeral, numeral}
use Rattle.definition.specs.Grammar as G
use Rattle.definition.specs.Grammar.SingularSegment.{name_segment, dot_segment, index_segment}
use Rattle.definition.specs.Grammar.SingularSegments.{no_singular, more_singular}
use Rattle.definition.specs.Grammar.Singular.{rel_singular, abs_singular}
use Rattle.definition.specs.Grammar.Literal.{number_literal, text_literal, true_literal, false_literal, null_literal}
use Rattle.definition.specs.Grammar.Operator.{eq_operator, ne_operator, lt_operator, le_operator, gt_operator, ge_operator}
use Rattle.definition.specs.Grammar.Segments.{no_segment, more_segments}
use Rattle.definition.specs.Grammar.Segment.{child_brackets, child_wild, child_name, descendant_brackets, descendant_wild, descendant_name}
use Rattle.definition.specs.Grammar.Bracketed.{bracketed}
use Rattle.definition.specs.Grammar.Selectors.{no_selector, more_selectors}
use Rattle.definition.specs.Grammar.Selector.{name_selector, wildcard_selector, slice_selector, index_selector, filter_selector}
use Rattle.definition.specs.Grammar.LogicalOr.{logical_or}
use Rattle.definition.specs.Grammar.MoreOr.{no_or, more_or}
use Rattle.definition.specs.Grammar.LogicalAnd.{logical_and}
use Rattle.definition.specs.Grammar.MoreAnd.{no_and, more_and}
use Rattle.definition.specs.Grammar.Basic.{paren_basic, not_paren, comparison, test_basic, not_test}
use Rattle.definition.specs.Grammar.Paren.{paren}
use Rattle.definition.specs.Grammar.Test.{query_test, function_test}
use Rattle.definition.specs.Grammar.FilterQuery.{rel_query, abs_query}
use Rattle.definition.specs.Grammar.Comparable.{literal_comparable, singular_comparable, function_comparable}
use Rattle.definition.specs.Grammar.Function.{function}
use Rattle.definition.specs.Grammar.Arguments.{no_argument, arguments}
use Rattle.definition.specs.Grammar.MoreArguments.{no_more, more_arguments}
use Rattle.definition.specs.Grammar.Argument.{literal_argument, query_argument, logical_argument, function_argument}
use Rattle.definition.specs.Forms as F
use Rattle.definition.specs.Forms.{is_singular}
use Rattle.definition.specs.Forms.Literal.{null, boolean, integer, float, text}
use Rattle.definition.specs.Forms.Operator.{eq, ne, lt, le, gt, ge}
use Rattle.definition.specs.Forms.Start.{root, current}
use Rattle.definition.specs.Forms.Query.{query}
use Rattle.definition.specs.Forms.Segments.{end, child, descendant}
use Rattle.definition.specs.Forms.Selectors.{one, and}
use Rattle.definition.specs.Forms.Selector.{name, index, slice, wildcard, filter}
use Rattle.definition.specs.Forms.Test.{exists, compare, regex, not, not_value, both, either}
use Rattle.definition.specs.Forms.Argument.{literal, singular, value}
use Rattle.definition.specs.Forms.Function.{count_of, length_of, value_of}

-- ---- what the walk of a part comes to

-- A refusal; or what the part stands for, with whether it has a literal beyond the range of literals.
pub data Walked (A : Type 0) : Type 0 where
  refused : ℕ → Walked A
  walked : (beyond : Bool) → A → Walked A

-- nothing to refuse, nothing to report
abbrev pub fine : {A : Type 0} → A → Walked A
fine x = walked false x

unfoldable pub also : {A : Type 0} → Bool → Walked A → Walked A
also b (refused n) = refused n
also b (walked e x) = walked (b || e) x

-- first one part, then the next: the first refusal stands
unfoldable pub next : {A B : Type 0} → Walked A → (A → Walked B) → Walked B
next (refused n) f = refused n
next (walked b x) f = also b (f x)

-- ---- whole numbers, slices, literals

unfoldable pub walk_int : Int → Walked ℤ
walk_int i = cond (in_range (int_value i)) (fine (int_value i)) (refused 4)

unfoldable pub walk_bound : Bound → Walked (Option ℤ)
walk_bound no_bound = fine none
walk_bound (bound i b) = next (walk_int i) (λ z. fine (some z))

unfoldable pub walk_step : Step → Walked (Option ℤ)
walk_step no_step = fine none
walk_step colon = fine none
walk_step (step b i) = next (walk_int i) (λ z. fine (some z))

unfoldable pub walk_slice : Slice → Walked F.Selector
walk_slice s =
    next (walk_bound s.start) (λ a.
    next (walk_bound s.stop) (λ b.
    next (walk_step s.by) (λ c. fine (slice a b c))))

-- A literal beyond the range of literals has no form. `null` stands in its place, in a query that refusal 8 keeps from having a form: the crate `definition_laws` (StandIns) proves it.
unfoldable pub walk_numeral : Numeral → Walked F.Literal
walk_numeral (Numeral.integer z) = fine (integer z)
walk_numeral (Numeral.float b) = fine (float b)
walk_numeral Numeral.beyond = walked true null

unfoldable pub walk_literal : G.Literal → Walked F.Literal
walk_literal (number_literal n) = walk_numeral (numeral n)
walk_literal (text_literal t) = fine (text (text_bytes t))
walk_literal true_literal = fine (boolean true)
walk_literal false_literal = fine (boolean false)
walk_literal null_literal = fine null

unfoldable pub operator_form : G.Operator → F.Operator
operator_form eq_operator = eq
operator_form ne_operator = ne
operator_form lt_operator = lt
operator_form le_operator = le
operator_form gt_operator = gt
operator_form ge_operator = ge

-- ---- singular queries

unfoldable pub walk_singular_segment : G.SingularSegment → Walked F.Selector
walk_singular_segment (name_segment t) = fine (name (text_bytes t))
walk_singular_segment (dot_segment n) = fine (name (name_bytes n))
walk_singular_segment (index_segment i) = next (walk_int i) (λ z. fine (index z))

unfoldable pub walk_singular_segments : G.SingularSegments → Walked F.Segments
walk_singular_segments no_singular = fine end
walk_singular_segments (more_singular b x xs) = next (walk_singular_segment x) (λ s. next (walk_singular_segments xs) (λ q. fine (child (one s) q)))

unfoldable pub walk_singular : G.Singular → Walked F.Query
walk_singular (rel_singular xs) = next (walk_singular_segments xs) (λ q. fine (query current q))
walk_singular (abs_singular xs) = next (walk_singular_segments xs) (λ q. fine (query root q))

-- ---- expressions and their types

-- What an expression of a filter comes to: a query, a value function, or something logical.
pub data Expression : Type 0 where
  nodes : F.Query → Expression
  valued : F.Function → Expression
  logical : F.Test → Expression

-- What stands in a comparison or as an argument: a literal or an expression.
pub data Operand : Type 0 where
  constant : F.Literal → Operand
  expression : Expression → Operand

-- An expression as a test. A value function comes here only as an operand straight in an argument's chain; no parameter takes such a chain, so no form has it:
-- the crate `definition_laws` (StandIns) proves it.
unfoldable pub as_test : Expression → F.Test
as_test (nodes q) = exists q
as_test (valued f) = not (not_value f)
as_test (logical t) = t

-- `!` straight before a query, a function or a parenthesis. Before a value function it is retired: "Refusals: 5, where the walk leaves the `!`" (document 02, W12).
-- So what is wrong inside comes first, and what stands behind comes later. Its form stays, for the plans that were stored before.
unfoldable pub negated : Expression → Walked Expression
negated (nodes q) = fine (logical (not (exists q)))
negated (valued f) = refused 5
negated (logical t) = fine (logical (not t))

-- "A value function alone as a test or operand is 5, but not straight in an argument": a is whether that is asked
unfoldable pub compared : Bool → Expression → Walked Expression
compared a (nodes q) = fine (nodes q)
compared true (valued f) = refused 5
compared false (valued f) = fine (valued f)
compared a (logical t) = fine (logical t)

-- "nodes parameters take queries"
unfoldable pub as_nodes : Operand → Walked F.Query
as_nodes (constant l) = refused 5
as_nodes (expression (nodes q)) = fine q
as_nodes (expression (valued f)) = refused 5
as_nodes (expression (logical t)) = refused 5

-- "Value parameters take literals, singular queries and value functions", and so do the sides of a comparison: "match or search compared is 5"
unfoldable pub as_value : Operand → Walked F.Argument
as_value (constant l) = fine (literal l)
as_value (expression (nodes q)) = cond (is_singular q) (fine (singular q)) (refused 5)
as_value (expression (valued f)) = fine (value f)
as_value (expression (logical t)) = refused 5

-- ---- functions: "arguments before the name lookup, then the argument count, then argument types"

pub data Named : Type 0 where
  count : Named
  length : Named
  value_name : Named
  match : Named
  search : Named
  unknown : Named

unfoldable pub named : List ℕ → Named
named s =
    cond (same_bytes s (0x63 ∷ 0x6F ∷ 0x75 ∷ 0x6E ∷ 0x74 ∷ [])) count
    (cond (same_bytes s (0x6C ∷ 0x65 ∷ 0x6E ∷ 0x67 ∷ 0x74 ∷ 0x68 ∷ [])) length
    (cond (same_bytes s (0x76 ∷ 0x61 ∷ 0x6C ∷ 0x75 ∷ 0x65 ∷ [])) value_name
    (cond (same_bytes s (0x6D ∷ 0x61 ∷ 0x74 ∷ 0x63 ∷ 0x68 ∷ [])) match
    (cond (same_bytes s (0x73 ∷ 0x65 ∷ 0x61 ∷ 0x72 ∷ 0x63 ∷ 0x68 ∷ [])) search unknown))))

-- the one argument of a function that has one, and the two of one that has two
unfoldable pub only : {A : Type 0} → List Operand → (Operand → Walked A) → Walked A
only [] f = refused 5
only (x ∷ []) f = f x
only (x ∷ y ∷ xs) f = refused 5

unfoldable pub as_regex : Scope → List Operand → Walked Expression
as_regex s [] = refused 5
as_regex s (x ∷ []) = refused 5
as_regex s (x ∷ y ∷ []) = next (as_value x) (λ a. next (as_value y) (λ b. fine (logical (regex s a b))))
as_regex s (x ∷ y ∷ z ∷ xs) = refused 5

unfoldable pub call : Named → List Operand → Walked Expression
call count xs = next (only xs as_nodes) (λ q. fine (valued (count_of q)))
call length xs = next (only xs as_value) (λ a. fine (valued (length_of a)))
call value_name xs = next (only xs as_nodes) (λ q. fine (valued (value_of q)))
call match xs = as_regex whole xs
call search xs = as_regex part xs
call unknown xs = refused 6

-- ---- the walk

unfoldable mutual
  pub walk_segments : G.Segments → Walked F.Segments
  walk_segments no_segment = fine end
  walk_segments (more_segments b x xs) = next (walk_segment x) (λ s. next (walk_segments xs) (λ q. fine (s q)))

  -- a segment is given by what it makes of the segments behind it
  pub walk_segment : G.Segment → Walked (F.Segments → F.Segments)
  walk_segment (child_brackets x) = next (walk_bracketed x) (λ ss. fine (child ss))
  walk_segment child_wild = fine (child (one wildcard))
  walk_segment (child_name n) = fine (child (one (name (name_bytes n))))
  walk_segment (descendant_brackets x) = next (walk_bracketed x) (λ ss. fine (descendant ss))
  walk_segment descendant_wild = fine (descendant (one wildcard))
  walk_segment (descendant_name n) = fine (descendant (one (name (name_bytes n))))

  pub walk_bracketed : G.Bracketed → Walked F.Selectors
  walk_bracketed (bracketed b x xs c) = next (walk_selector x) (λ s. walk_selectors xs s)

  -- the selector before, and those of the list behind it
  pub walk_selectors : G.Selectors → F.Selector → Walked F.Selectors
  walk_selectors no_selector s = fine (one s)
  walk_selectors (more_selectors b c x xs) s = next (walk_selector x) (λ t. next (walk_selectors xs t) (λ ss. fine (and s ss)))

  pub walk_selector : G.Selector → Walked F.Selector
  walk_selector (name_selector t) = fine (name (text_bytes t))
  walk_selector wildcard_selector = fine wildcard
  walk_selector (slice_selector s) = walk_slice s
  walk_selector (index_selector i) = next (walk_int i) (λ z. fine (index z))
  walk_selector (filter_selector b e) = next (walk_or e true) (λ x. fine (filter (as_test x)))

  -- a says whether a value function alone is refused. "Chains of `&&` or of `||` group from the left"
  pub walk_or : G.LogicalOr → Bool → Walked Expression
  walk_or (logical_or x xs) a = next (walk_and x a) (λ e. walk_more_or xs a e)

  pub walk_more_or : G.MoreOr → Bool → Expression → Walked Expression
  walk_more_or no_or a e = fine e
  walk_more_or (more_or b c x xs) a e = next (walk_and x a) (λ d. walk_more_or xs a (logical (either (as_test e) (as_test d))))

  pub walk_and : G.LogicalAnd → Bool → Walked Expression
  walk_and (logical_and x xs) a = next (walk_basic x) (λ e. next (compared a e) (λ f. walk_more_and xs a f))

  pub walk_more_and : G.MoreAnd → Bool → Expression → Walked Expression
  walk_more_and no_and a e = fine e
  walk_more_and (more_and b c x xs) a e = next (walk_basic x) (λ d. next (compared a d) (λ f. walk_more_and xs a (logical (both (as_test e) (as_test f)))))

  -- "both sides of a comparison before either is judged"
  pub walk_basic : G.Basic → Walked Expression
  walk_basic (paren_basic p) = walk_paren p
  walk_basic (not_paren b p) = next (walk_paren p) (λ e. negated e)
  walk_basic (comparison x b o c y) = next (walk_comparable x) (λ l. next (walk_comparable y) (λ r. next (as_value l) (λ a. next (as_value r) (λ d. fine (logical (compare (operator_form o) a d))))))
  walk_basic (test_basic t) = walk_test t
  walk_basic (not_test b t) = next (walk_test t) (λ e. negated e)

  -- "parentheses group, and leave no form behind"; inside them a value function may not stand alone
  pub walk_paren : G.Paren → Walked Expression
  walk_paren (paren b e c) = walk_or e true

  pub walk_test : G.Test → Walked Expression
  walk_test (query_test q) = next (walk_filter_query q) (λ x. fine (nodes x))
  walk_test (function_test f) = walk_function f

  pub walk_filter_query : G.FilterQuery → Walked F.Query
  walk_filter_query (rel_query xs) = next (walk_segments xs) (λ q. fine (query current q))
  walk_filter_query (abs_query xs) = next (walk_segments xs) (λ q. fine (query root q))

  pub walk_comparable : G.Comparable → Walked Operand
  walk_comparable (literal_comparable l) = next (walk_literal l) (λ x. fine (constant x))
  walk_comparable (singular_comparable q) = next (walk_singular q) (λ x. fine (expression (nodes x)))
  walk_comparable (function_comparable f) = next (walk_function f) (λ x. fine (expression x))

  pub walk_function : G.Function → Walked Expression
  walk_function (function n b xs c) = next (walk_arguments xs) (λ os. call (named (function_bytes n)) os)

  pub walk_arguments : G.Arguments → Walked (List Operand)
  walk_arguments no_argument = fine []
  walk_arguments (arguments x xs) = next (walk_argument x) (λ o. next (walk_more_arguments xs) (λ os. fine (o ∷ os)))

  pub walk_more_arguments : G.MoreArguments → Walked (List Operand)
  walk_more_arguments no_more = fine []
  walk_more_arguments (more_arguments b c x xs) = next (walk_argument x) (λ o. next (walk_more_arguments xs) (λ os. fine (o ∷ os)))

  pub walk_argument : G.Argument → Walked Operand
  walk_argument (literal_argument l) = next (walk_literal l) (λ x. fine (constant x))
  walk_argument (query_argument q) = next (walk_filter_query q) (λ x. fine (expression (nodes x)))
  walk_argument (logical_argument e) = next (walk_or e false) (λ x. fine (expression x))
  walk_argument (function_argument f) = next (walk_function f) (λ x. fine (expression x))

unfoldable pub walk : G.Query → Walked F.Query
walk q = next (walk_segments q.segments) (λ x. fine (query root x))
