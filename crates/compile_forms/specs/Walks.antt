-- The walk over a tree refuses by 4, 5 or 6, and by nothing else. Assumes nothing.
use Rattle.std.specs.Prelude.{ℕ, List, [], ◌∷◌, Bool, true, false, cond}
use Rattle.std.proofs.Math.Option.{some}
use Rattle.definition.specs.Lexical.{Int, Bound, Step, Slice, function_bytes}
use Rattle.definition.specs.Lexical.Bound.{no_bound, bound}
use Rattle.definition.specs.Lexical.Step.{no_step, colon, step}
use Rattle.definition.specs.Literals.{int_value, in_range, Numeral, numeral}
use Rattle.definition.specs.Grammar as G
use Rattle.definition.specs.Grammar.SingularSegment.{name_segment, dot_segment, index_segment}
use Rattle.definition.specs.Grammar.SingularSegments.{no_singular, more_singular}
use Rattle.definition.specs.Grammar.Singular.{rel_singular, abs_singular}
use Rattle.definition.specs.Grammar.Literal.{number_literal, text_literal, true_literal, false_literal, null_literal}
use Rattle.definition.specs.Grammar.Segments.{no_segment, more_segments}
use Rattle.definition.specs.Grammar.Segment.{child_brackets, child_wild, child_name, descendant_brackets, descendant_wild, descendant_name}
use Rattle.definition.specs.Grammar.Bracketed.{bracketed}
use Rattle.definition.specs.Grammar.Selectors.{no_selector, more_selectors}
use Rattle.definition.specs.Grammar.Selector.{name_selector, wildcard_selector, slice_selector, index_selector, filter_selector}
use Rattle.definition.specs.Grammar.LogicalOr.{logical_or}
use Rattle.definition.specs.Grammar.MoreOr.{no_or, more_or}
use Rattle.definition.specs.Grammar.LogicalAnd.{logical_and}
use Rattle.definition.specs.Grammar.MoreAnd.{no_and, more_and}
use Rattle.definition.specs.Grammar.Basic.{paren_basic, not_paren, comparison, test_basic, not_test}
use Rattle.definition.specs.Grammar.Paren.{paren}
use Rattle.definition.specs.Grammar.Test.{query_test, function_test}
use Rattle.definition.specs.Grammar.FilterQuery.{rel_query, abs_query}
use Rattle.definition.specs.Grammar.Comparable.{literal_comparable, singular_comparable, function_comparable}
use Rattle.definition.specs.Grammar.Function.{function}
use Rattle.definition.specs.Grammar.Arguments.{no_argument, arguments}
use Rattle.definition.specs.Grammar.MoreArguments.{no_more, more_arguments}
use Rattle.definition.specs.Grammar.Argument.{literal_argument, query_argument, logical_argument, function_argument}
use Rattle.regex_definition.specs.Scope.{Scope, whole, part}
use Rattle.definition.specs.Forms as F
use Rattle.definition.specs.Forms.{is_singular}
use Rattle.definition.specs.Forms.Literal.{integer, float}
use Rattle.definition.specs.Forms.Start.{root, current}
use Rattle.definition.specs.Forms.Query.{query}
use Rattle.definition.specs.Forms.Segments.{child, descendant}
use Rattle.definition.specs.Forms.Selectors.{one, and}
use Rattle.definition.specs.Forms.Selector.{index, slice, filter}
use Rattle.definition.specs.Forms.Test.{compare, both, either}
use Rattle.definition.specs.Forms.Argument.{singular}
use Rattle.definition.specs.Forms.Function.{count_of, length_of, value_of}
use Rattle.definition.specs.Walk.{Walked, Expression, Operand, Named, fine, also, next, walk_int, walk_bound, walk_step, walk_slice, walk_numeral, walk_literal, operator_form, walk_singular_segment, walk_singular_segments, walk_singular, as_test, negated, compared, as_nodes, as_value, named, only, as_regex, call, walk_segments, walk_segment, walk_bracketed, walk_selectors, walk_selector, walk_or, walk_more_or, walk_and, walk_more_and, walk_basic, walk_paren, walk_test, walk_filter_query, walk_comparable, walk_function, walk_arguments, walk_more_arguments, walk_argument, walk}
use Rattle.definition.specs.Walk.Walked.{refused, walked}
use Rattle.definition.specs.Walk.Expression.{nodes, valued, logical}
use Rattle.definition.specs.Walk.Operand.{constant, expression}
use Rattle.definition.specs.Walk.Named.{count, length, value_name, match, search, unknown}

-- the refusals of the walk: a number out of range, typing, an unknown function
pub data WalkNumber : ℕ → Type 0 where
  four : WalkNumber 4
  five : WalkNumber 5
  six : WalkNumber 6

-- what the walk of a part comes to keeps to them
abbrev pub Keeps : {A : Type 0} → Walked A → Type 0
Keeps (refused n) = WalkNumber n
Keeps (walked b x) = Unit {0}

also_keeps : {A : Type 0} (b : Bool) (m : Walked A) → Keeps m → Keeps (also b m)
unfolding also
also_keeps b (refused n) h = h
also_keeps b (walked e x) h = tt

next_keeps : {A B : Type 0} (m : Walked A) (f : A → Walked B) → Keeps m → ((x : A) → Keeps (f x)) → Keeps (next m f)
unfolding next
next_keeps (refused n) f h g = h
next_keeps (walked b x) f h g = also_keeps b (f x) (g x)

-- with nothing to refuse behind it
then_fine : {A B : Type 0} (m : Walked A) (f : A → B) → Keeps m → Keeps (next m (λ x. fine (f x)))
then_fine m f h = next_keeps m (λ x. fine (f x)) h (λ x. tt)

-- a whole number outside its range is 4
int_keeps : (i : Int) → Keeps (walk_int i)
unfolding walk_int
int_keeps i = by (in_range (int_value i))
  where
    by : (t : Bool) → Keeps (cond t (fine (int_value i)) (refused 4))
    by true = tt
    by false = four

-- so are a slice's bounds and its step
bound_keeps : (b : Bound) → Keeps (walk_bound b)
unfolding walk_bound
bound_keeps no_bound = tt
bound_keeps (bound i b) = then_fine (walk_int i) (λ z. some z) (int_keeps i)

step_keeps : (s : Step) → Keeps (walk_step s)
unfolding walk_step
step_keeps no_step = tt
step_keeps colon = tt
step_keeps (step b i) = then_fine (walk_int i) (λ z. some z) (int_keeps i)

slice_keeps : (s : Slice) → Keeps (walk_slice s)
unfolding walk_slice
slice_keeps s =
    next_keeps (walk_bound s.start) _ (bound_keeps s.start) (λ a.
    next_keeps (walk_bound s.stop) _ (bound_keeps s.stop) (λ b.
    then_fine (walk_step s.by) (λ c. slice a b c) (step_keeps s.by)))

-- no literal is refused by the walk: one beyond the range of literals is only reported
numeral_keeps : (n : Numeral) → Keeps (walk_numeral n)
unfolding walk_numeral
numeral_keeps (Numeral.integer z) = tt
numeral_keeps (Numeral.float b) = tt
numeral_keeps Numeral.beyond = tt

literal_keeps : (l : G.Literal) → Keeps (walk_literal l)
unfolding walk_literal
literal_keeps (number_literal n) = numeral_keeps (numeral n)
literal_keeps (text_literal t) = tt
literal_keeps true_literal = tt
literal_keeps false_literal = tt
literal_keeps null_literal = tt

-- singular queries
singular_segment_keeps : (x : G.SingularSegment) → Keeps (walk_singular_segment x)
unfolding walk_singular_segment
singular_segment_keeps (name_segment t) = tt
singular_segment_keeps (dot_segment n) = tt
singular_segment_keeps (index_segment i) = then_fine (walk_int i) (λ z. index z) (int_keeps i)

singular_segments_keeps : (xs : G.SingularSegments) → Keeps (walk_singular_segments xs)
unfolding walk_singular_segments
singular_segments_keeps no_singular = tt
singular_segments_keeps (more_singular b x xs) = next_keeps (walk_singular_segment x) _ (singular_segment_keeps x) (λ s. then_fine (walk_singular_segments xs) (λ q. child (one s) q) (singular_segments_keeps xs))

singular_keeps : (q : G.Singular) → Keeps (walk_singular q)
unfolding walk_singular
singular_keeps (rel_singular xs) = then_fine (walk_singular_segments xs) (λ q. query current q) (singular_segments_keeps xs)
singular_keeps (abs_singular xs) = then_fine (walk_singular_segments xs) (λ q. query root q) (singular_segments_keeps xs)

-- typing is 5
compared_keeps : (a : Bool) (e : Expression) → Keeps (compared a e)
unfolding compared
compared_keeps a (nodes q) = tt
compared_keeps true (valued f) = five
compared_keeps false (valued f) = tt
compared_keeps a (logical t) = tt

negated_keeps : (e : Expression) → Keeps (negated e)
unfolding negated
negated_keeps (nodes q) = tt
negated_keeps (valued f) = five
negated_keeps (logical t) = tt

nodes_keeps : (x : Operand) → Keeps (as_nodes x)
unfolding as_nodes
nodes_keeps (constant l) = five
nodes_keeps (expression (nodes q)) = tt
nodes_keeps (expression (valued f)) = five
nodes_keeps (expression (logical t)) = five

value_keeps : (x : Operand) → Keeps (as_value x)
unfolding as_value
value_keeps (constant l) = tt
value_keeps (expression (nodes q)) = by (is_singular q)
  where
    by : (t : Bool) → Keeps (cond t (fine (singular q)) (refused 5))
    by true = tt
    by false = five
value_keeps (expression (valued f)) = tt
value_keeps (expression (logical t)) = five

-- functions: the number of arguments and their types are 5, an unknown name is 6
only_keeps : {A : Type 0} (xs : List Operand) (f : Operand → Walked A) → ((x : Operand) → Keeps (f x)) → Keeps (only xs f)
unfolding only
only_keeps [] f h = five
only_keeps (x ∷ []) f h = h x
only_keeps (x ∷ y ∷ xs) f h = five

regex_keeps : (c : Scope) (xs : List Operand) → Keeps (as_regex c xs)
unfolding as_regex
regex_keeps c [] = five
regex_keeps c (x ∷ []) = five
regex_keeps c (x ∷ y ∷ []) = next_keeps (as_value x) _ (value_keeps x) (λ a. next_keeps (as_value y) _ (value_keeps y) (λ b. tt))
regex_keeps c (x ∷ y ∷ z ∷ xs) = five

call_keeps : (n : Named) (xs : List Operand) → Keeps (call n xs)
unfolding call
call_keeps count xs = then_fine (only xs as_nodes) (λ q. valued (count_of q)) (only_keeps xs as_nodes (λ x. nodes_keeps x))
call_keeps length xs = then_fine (only xs as_value) (λ a. valued (length_of a)) (only_keeps xs as_value (λ x. value_keeps x))
call_keeps value_name xs = then_fine (only xs as_nodes) (λ q. valued (value_of q)) (only_keeps xs as_nodes (λ x. nodes_keeps x))
call_keeps match xs = regex_keeps whole xs
call_keeps search xs = regex_keeps part xs
call_keeps unknown xs = six

-- the walk itself, part by part
mutual
  unfolding walk_segments walk_segment walk_bracketed walk_selectors walk_selector walk_or walk_more_or walk_and walk_more_and walk_basic walk_paren walk_test walk_filter_query walk_comparable walk_function walk_arguments walk_more_arguments walk_argument

  segments_keeps : (x : G.Segments) → Keeps (walk_segments x)
  segments_keeps no_segment = tt
  segments_keeps (more_segments b x xs) = next_keeps (walk_segment x) _ (segment_keeps x) (λ s. then_fine (walk_segments xs) (λ q. s q) (segments_keeps xs))

  segment_keeps : (x : G.Segment) → Keeps (walk_segment x)
  segment_keeps (child_brackets x) = then_fine (walk_bracketed x) (λ ss. child ss) (bracketed_keeps x)
  segment_keeps child_wild = tt
  segment_keeps (child_name n) = tt
  segment_keeps (descendant_brackets x) = then_fine (walk_bracketed x) (λ ss. descendant ss) (bracketed_keeps x)
  segment_keeps descendant_wild = tt
  segment_keeps (descendant_name n) = tt

  bracketed_keeps : (x : G.Bracketed) → Keeps (walk_bracketed x)
  bracketed_keeps (bracketed b x xs c) = next_keeps (walk_selector x) _ (selector_keeps x) (λ s. selectors_keeps xs s)

  selectors_keeps : (x : G.Selectors) (s : F.Selector) → Keeps (walk_selectors x s)
  selectors_keeps no_selector s = tt
  selectors_keeps (more_selectors b c x xs) s = next_keeps (walk_selector x) _ (selector_keeps x) (λ t. then_fine (walk_selectors xs t) (λ ss. and s ss) (selectors_keeps xs t))

  selector_keeps : (x : G.Selector) → Keeps (walk_selector x)
  selector_keeps (name_selector t) = tt
  selector_keeps wildcard_selector = tt
  selector_keeps (slice_selector s) = slice_keeps s
  selector_keeps (index_selector i) = then_fine (walk_int i) (λ z. index z) (int_keeps i)
  selector_keeps (filter_selector b e) = then_fine (walk_or e true) (λ x. filter (as_test x)) (or_keeps e true)

  or_keeps : (x : G.LogicalOr) (a : Bool) → Keeps (walk_or x a)
  or_keeps (logical_or x xs) a = next_keeps (walk_and x a) _ (and_keeps x a) (λ e. more_or_keeps xs a e)

  more_or_keeps : (x : G.MoreOr) (a : Bool) (e : Expression) → Keeps (walk_more_or x a e)
  more_or_keeps no_or a e = tt
  more_or_keeps (more_or b c x xs) a e = next_keeps (walk_and x a) _ (and_keeps x a) (λ d. more_or_keeps xs a (logical (either (as_test e) (as_test d))))

  and_keeps : (x : G.LogicalAnd) (a : Bool) → Keeps (walk_and x a)
  and_keeps (logical_and x xs) a = next_keeps (walk_basic x) _ (basic_keeps x) (λ e. next_keeps (compared a e) _ (compared_keeps a e) (λ f. more_and_keeps xs a f))

  more_and_keeps : (x : G.MoreAnd) (a : Bool) (e : Expression) → Keeps (walk_more_and x a e)
  more_and_keeps no_and a e = tt
  more_and_keeps (more_and b c x xs) a e = next_keeps (walk_basic x) _ (basic_keeps x) (λ d. next_keeps (compared a d) _ (compared_keeps a d) (λ f. more_and_keeps xs a (logical (both (as_test e) (as_test f)))))

  basic_keeps : (x : G.Basic) → Keeps (walk_basic x)
  basic_keeps (paren_basic p) = paren_keeps p
  basic_keeps (not_paren b p) = next_keeps (walk_paren p) _ (paren_keeps p) (λ e. negated_keeps e)
  basic_keeps (comparison x b o c y) =
      next_keeps (walk_comparable x) _ (comparable_keeps x) (λ l.
      next_keeps (walk_comparable y) _ (comparable_keeps y) (λ r.
      next_keeps (as_value l) _ (value_keeps l) (λ a. then_fine (as_value r) (λ d. logical (compare (operator_form o) a d)) (value_keeps r))))
  basic_keeps (test_basic t) = test_keeps t
  basic_keeps (not_test b t) = next_keeps (walk_test t) _ (test_keeps t) (λ e. negated_keeps e)

  paren_keeps : (x : G.Paren) → Keeps (walk_paren x)
  paren_keeps (paren b e c) = or_keeps e true

  test_keeps : (x : G.Test) → Keeps (walk_test x)
  test_keeps (query_test q) = then_fine (walk_filter_query q) (λ x. nodes x) (filter_query_keeps q)
  test_keeps (function_test f) = function_keeps f

  filter_query_keeps : (x : G.FilterQuery) → Keeps (walk_filter_query x)
  filter_query_keeps (rel_query xs) = then_fine (walk_segments xs) (λ q. query current q) (segments_keeps xs)
  filter_query_keeps (abs_query xs) = then_fine (walk_segments xs) (λ q. query root q) (segments_keeps xs)

  comparable_keeps : (x : G.Comparable) → Keeps (walk_comparable x)
  comparable_keeps (literal_comparable l) = then_fine (walk_literal l) (λ x. constant x) (literal_keeps l)
  comparable_keeps (singular_comparable q) = then_fine (walk_singular q) (λ x. expression (nodes x)) (singular_keeps q)
  comparable_keeps (function_comparable f) = then_fine (walk_function f) (λ x. expression x) (function_keeps f)

  function_keeps : (x : G.Function) → Keeps (walk_function x)
  function_keeps (function n b xs c) = next_keeps (walk_arguments xs) _ (arguments_keeps xs) (λ os. call_keeps (named (function_bytes n)) os)

  arguments_keeps : (x : G.Arguments) → Keeps (walk_arguments x)
  arguments_keeps no_argument = tt
  arguments_keeps (arguments x xs) = next_keeps (walk_argument x) _ (argument_keeps x) (λ o. then_fine (walk_more_arguments xs) (λ os. o ∷ os) (more_arguments_keeps xs))

  more_arguments_keeps : (x : G.MoreArguments) → Keeps (walk_more_arguments x)
  more_arguments_keeps no_more = tt
  more_arguments_keeps (more_arguments b c x xs) = next_keeps (walk_argument x) _ (argument_keeps x) (λ o. then_fine (walk_more_arguments xs) (λ os. o ∷ os) (more_arguments_keeps xs))

  argument_keeps : (x : G.Argument) → Keeps (walk_argument x)
  argument_keeps (literal_argument l) = then_fine (walk_literal l) (λ x. constant x) (literal_keeps l)
  argument_keeps (query_argument q) = then_fine (walk_filter_query q) (λ x. expression (nodes x)) (filter_query_keeps q)
  argument_keeps (logical_argument e) = then_fine (walk_or e false) (λ x. expression x) (or_keeps e false)
  argument_keeps (function_argument f) = then_fine (walk_function f) (λ x. expression x) (function_keeps f)

-- The walk over a tree refuses by 4, 5 or 6, or refuses nothing.
pub walk_keeps : (t : G.Query) → Keeps (walk t)
unfolding walk
walk_keeps t = then_fine (walk_segments t.segments) (λ x. query root x) (segments_keeps t.segments)
