-- Every query form is the form of some tree of the grammar, as far as a query can write it: its floats, and no `!` before a value function, which only stored plans
-- hold. So query forms are what the grammar and the typing rules allow or once allowed, and nothing wider. The tree has parentheses around every operand, brackets
-- around every selector, and no blank. That no other form is the form of a tree is said in Asked.antt. Assumes nothing.
use Rattle.std.specs.Prelude.{ℕ, ◌≡◌, refl, Bool, true, false, ◌&&◌, leb, ℤ}
use Rattle.std.proofs.Math.Path.{ap}
use Rattle.std.proofs.Common.{◌∙◌}
use mathlib.Core.List.{List, [], ◌∷◌}
use Rattle.std.proofs.lemmas.Bool.{false≢true}
use Rattle.std.proofs.Math.Option.{Option, none, some}
use Rattle.definition.specs.Limits.{max_nesting}
use Rattle.definition.specs.Bytes.{same_bytes}
use Rattle.definition.specs.Lexical.{FunctionName, Int, Number, Bound, Step, Slice, function_bytes}
use Rattle.definition.specs.Lexical.Bound.{no_bound, bound}
use Rattle.definition.specs.Lexical.Step.{no_step, step}
use Rattle.definition.specs.Literals.{in_range, Numeral, numeral}
use Rattle.definition.specs.Forms.{is_singular_selector, is_singular_selectors, is_singular_segments}
use Rattle.definition.specs.Forms.Operator.{eq, ne, lt, le, gt, ge}
use Rattle.definition.specs.QueryForms.{literal_right, bound_right, query_right, segments_right, selectors_right, selector_right, test_right, argument_right, function_right, nesting, starts_at_root, is_form}
use Rattle.definition.specs.Selecting.{judge}
use Rattle.definition.specs.Selecting.Reading.{form}
use Rattle.definition.specs.Grammar as G
use Rattle.definition.specs.Grammar.SingularSegment.{name_segment, index_segment}
use Rattle.definition.specs.Grammar.SingularSegments.{no_singular, more_singular}
use Rattle.definition.specs.Grammar.Singular.{rel_singular, abs_singular}
use Rattle.definition.specs.Grammar.Literal.{number_literal, text_literal, true_literal, false_literal, null_literal}
use Rattle.definition.specs.Grammar.Operator.{eq_operator, ne_operator, lt_operator, le_operator, gt_operator, ge_operator}
use Rattle.definition.specs.Grammar.Segments.{no_segment, more_segments}
use Rattle.definition.specs.Grammar.Segment.{child_brackets, descendant_brackets}
use Rattle.definition.specs.Grammar.Bracketed.{bracketed}
use Rattle.definition.specs.Grammar.Selectors.{no_selector, more_selectors}
use Rattle.definition.specs.Grammar.Selector.{name_selector, wildcard_selector, slice_selector, index_selector, filter_selector}
use Rattle.definition.specs.Grammar.LogicalOr.{logical_or}
use Rattle.definition.specs.Grammar.MoreOr.{no_or, more_or}
use Rattle.definition.specs.Grammar.LogicalAnd.{logical_and}
use Rattle.definition.specs.Grammar.MoreAnd.{no_and, more_and}
use Rattle.definition.specs.Grammar.Basic.{paren_basic, not_paren, comparison, test_basic}
use Rattle.definition.specs.Grammar.Paren.{paren}
use Rattle.definition.specs.Grammar.Test.{query_test, function_test}
use Rattle.definition.specs.Grammar.FilterQuery.{rel_query, abs_query}
use Rattle.definition.specs.Grammar.Comparable.{literal_comparable, singular_comparable, function_comparable}
use Rattle.definition.specs.Grammar.Function.{function}
use Rattle.definition.specs.Grammar.Arguments.{arguments}
use Rattle.definition.specs.Grammar.MoreArguments.{no_more, more_arguments}
use Rattle.definition.specs.Grammar.Argument.{literal_argument, query_argument, function_argument}
use Rattle.regex_definition.specs.Scope.{Scope, whole, part}
use Rattle.definition.specs.Forms as F
use Rattle.definition.specs.Forms.{is_singular}
use Rattle.definition.specs.Forms.Literal.{null, boolean, integer, float, text}
use Rattle.definition.specs.Forms.Start.{root, current}
use Rattle.definition.specs.Forms.Query.{query}
use Rattle.definition.specs.Forms.Segments.{end, child, descendant}
use Rattle.definition.specs.Forms.Selectors.{one, and}
use Rattle.definition.specs.Forms.Selector.{name, index, slice, wildcard, filter}
use Rattle.definition.specs.Forms.Test.{exists, compare, regex, not, not_value, both, either}
use Rattle.definition.specs.Forms.Argument.{literal, singular, value}
use Rattle.definition.specs.Forms.Function.{count_of, length_of, value_of}
use Rattle.definition.specs.Walk.{Walked, Expression, Operand, fine, next, walk_int, walk_bound, walk_step, walk_slice, walk_numeral, walk_literal, operator_form, walk_singular_segment, walk_singular_segments, walk_singular, as_test, negated, compared, as_nodes, as_value, named, only, as_regex, call, walk_segments, walk_segment, walk_bracketed, walk_selectors, walk_selector, walk_or, walk_more_or, walk_and, walk_more_and, walk_basic, walk_paren, walk_test, walk_filter_query, walk_comparable, walk_function, walk_arguments, walk_more_arguments, walk_argument, walk}
use Rattle.definition.specs.Walk.Expression.{nodes, valued, logical}
use Rattle.definition.specs.Walk.Operand.{constant, expression}
use Rattle.definition_laws.specs.Written.{text_written, int_written, integer_written}
use Rattle.basics.specs.Bools.{and_left as left, and_right as right}
use Rattle.compile_writes.specs.Expressions.{also_nothing as quiet}
use Rattle.compile_writes.specs.Singular.{no_blanks}

-- ---- walks that report nothing

-- a walk that comes to x goes on with x
then : {A B : Type 0} {m : Walked A} {x : A} (f : A → Walked B) → m ≡ fine x → next m f ≡ f x
unfolding next
then {x = x} f e = ap (λ m. next m f) e ∙ quiet (f x)

-- ---- spellings

abbrev count_name : FunctionName
count_name = record { first = 0x63; more = 0x6F ∷ 0x75 ∷ 0x6E ∷ 0x74 ∷ []; is_first = refl; are_more = refl }

abbrev length_name : FunctionName
length_name = record { first = 0x6C; more = 0x65 ∷ 0x6E ∷ 0x67 ∷ 0x74 ∷ 0x68 ∷ []; is_first = refl; are_more = refl }

abbrev value_word : FunctionName
value_word = record { first = 0x76; more = 0x61 ∷ 0x6C ∷ 0x75 ∷ 0x65 ∷ []; is_first = refl; are_more = refl }

abbrev scope_name : Scope → FunctionName
scope_name whole = record { first = 0x6D; more = 0x61 ∷ 0x74 ∷ 0x63 ∷ 0x68 ∷ []; is_first = refl; are_more = refl }
scope_name part = record { first = 0x73; more = 0x65 ∷ 0x61 ∷ 0x72 ∷ 0x63 ∷ 0x68 ∷ []; is_first = refl; are_more = refl }

abbrev operator_tree : F.Operator → G.Operator
operator_tree eq = eq_operator
operator_tree ne = ne_operator
operator_tree lt = lt_operator
operator_tree le = le_operator
operator_tree gt = gt_operator
operator_tree ge = ge_operator

operator_back : (o : F.Operator) → operator_form (operator_tree o) ≡ o
unfolding operator_form
operator_back eq = refl
operator_back ne = refl
operator_back lt = refl
operator_back le = refl
operator_back gt = refl
operator_back ge = refl

int_tree : (z : ℤ) → in_range z ≡ true → (i : Int) × (walk_int i ≡ fine z)
unfolding walk_int
int_tree z h = let w = int_written z in (w.0, rw (w.1, h) refl)

bound_tree : (z : Option ℤ) → bound_right z ≡ true → (b : Bound) × (walk_bound b ≡ fine z)
unfolding walk_bound bound_right
bound_tree none h = (no_bound, refl)
bound_tree (some z) h = let w = int_tree z h in (bound w.0 no_blanks, then (λ z. fine (some z)) w.1)

step_tree : (z : Option ℤ) → bound_right z ≡ true → (b : Step) × (walk_step b ≡ fine z)
unfolding walk_step bound_right
step_tree none h = (no_step, refl)
step_tree (some z) h = let w = int_tree z h in (step no_blanks w.0, then (λ z. fine (some z)) w.1)

slice_tree : (a b c : Option ℤ) → bound_right a ≡ true → bound_right b ≡ true → bound_right c ≡ true → (s : Slice) × (walk_slice s ≡ fine (slice a b c))
unfolding walk_slice
slice_tree a b c h k l =
    let x = bound_tree a h in
    let y = bound_tree b k in
    let z = step_tree c l in
    (record { start = x.0; blanks = no_blanks; stop = y.0; by = z.0 }, then _ x.1 ∙ then _ y.1 ∙ then _ z.1)

-- ---- what the walk makes of a test, and of an argument

abbrev told : F.Test → Expression
told (exists q) = nodes q
told (compare o a b) = logical (compare o a b)
told (regex c a b) = logical (regex c a b)
told (not t) = logical (not t)
told (not_value f) = logical (not_value f)
told (both a b) = logical (both a b)
told (either a b) = logical (either a b)

told_test : (t : F.Test) → as_test (told t) ≡ t
unfolding as_test
told_test (exists q) = refl
told_test (compare o a b) = refl
told_test (regex c a b) = refl
told_test (not t) = refl
told_test (not_value f) = refl
told_test (both a b) = refl
told_test (either a b) = refl

told_not : (t : F.Test) → negated (told t) ≡ fine (logical (not t))
unfolding negated
told_not (exists q) = refl
told_not (compare o a b) = refl
told_not (regex c a b) = refl
told_not (not t) = refl
told_not (not_value f) = refl
told_not (both a b) = refl
told_not (either a b) = refl

told_compared : (t : F.Test) → compared true (told t) ≡ fine (told t)
unfolding compared
told_compared (exists q) = refl
told_compared (compare o a b) = refl
told_compared (regex c a b) = refl
told_compared (not t) = refl
told_compared (not_value f) = refl
told_compared (both a b) = refl
told_compared (either a b) = refl

-- the name of match and of search is looked up with its scope
scope_call : (c : Scope) (x y : Operand) → call (named (function_bytes (scope_name c))) (x ∷ y ∷ []) ≡ next (as_value x) (λ a. next (as_value y) (λ b. fine (logical (regex c a b))))
unfolding named same_bytes call as_regex
scope_call whole x y = refl
scope_call part x y = refl

abbrev operand_of : F.Argument → Operand
operand_of (literal l) = constant l
operand_of (singular q) = expression (nodes q)
operand_of (value f) = expression (valued f)

-- a test alone, as a logical expression
alone : (t : F.Test) → (x : G.Basic) × (walk_basic x ≡ fine (told t)) → (y : G.LogicalOr) × (walk_or y true ≡ fine (told t))
unfolding walk_or walk_more_or walk_and walk_more_and
alone t x = (logical_or (logical_and x.0 no_and) no_or, then _ (then _ x.1 ∙ then _ (told_compared t)))

-- ---- singular queries

singular_segment_lem : (s : F.Selector) → is_singular_selector s ≡ true → selector_right s ≡ true → (x : G.SingularSegment) × (walk_singular_segment x ≡ fine s)
unfolding is_singular_selector selector_right walk_singular_segment
singular_segment_lem (name s) h k = let w = text_written s k in (name_segment w.0, ap (λ (b : List ℕ). fine (name b)) w.1)
singular_segment_lem (index z) h k = let w = int_tree z k in (index_segment w.0, then (λ z. fine (index z)) w.1)
singular_segment_lem (slice a b c) h k = absurd (false≢true h)
singular_segment_lem wildcard h k = absurd (false≢true h)
singular_segment_lem (filter t) h k = absurd (false≢true h)

singular_segments_lem : (q : F.Segments) → is_singular_segments q ≡ true → segments_right q ≡ true → (x : G.SingularSegments) × (walk_singular_segments x ≡ fine q)
unfolding is_singular_segments is_singular_selectors segments_right walk_singular_segments
singular_segments_lem end h k = (no_singular, refl)
singular_segments_lem (child (one s) q) h k =
    let x = singular_segment_lem s (left (is_singular_selector s) (is_singular_segments q) h) (left (selector_right s) (segments_right q) k) in
    let y = singular_segments_lem q (right (is_singular_selector s) (is_singular_segments q) h) (right (selector_right s) (segments_right q) k) in
    (more_singular no_blanks x.0 y.0, then _ x.1 ∙ then _ y.1)
singular_segments_lem (child (and s ss) q) h k = absurd (false≢true h)
singular_segments_lem (descendant ss q) h k = absurd (false≢true h)

singular_tree : (q : F.Query) → is_singular q ≡ true → query_right q ≡ true → (x : G.Singular) × (walk_singular x ≡ fine q)
unfolding is_singular query_right walk_singular
singular_tree (query root q) h k = let x = singular_segments_lem q h k in (abs_singular x.0, then _ x.1)
singular_tree (query current q) h k = let x = singular_segments_lem q h k in (rel_singular x.0, then _ x.1)

-- ---- which forms a query can write, by any test of floats: the floats of the form pass it, and no `!` stands before a value function

module _ (can : ℕ → Bool) where
  abbrev pub can_literal : F.Literal → Bool
  can_literal null = true
  can_literal (boolean b) = true
  can_literal (integer z) = true
  can_literal (float b) = can b
  can_literal (text s) = true

  abbrev mutual
    pub can_query : F.Query → Bool
    can_query (query s q) = can_segments q

    pub can_segments : F.Segments → Bool
    can_segments end = true
    can_segments (child ss q) = can_selectors ss && can_segments q
    can_segments (descendant ss q) = can_selectors ss && can_segments q

    pub can_selectors : F.Selectors → Bool
    can_selectors (one s) = can_selector s
    can_selectors (and s ss) = can_selector s && can_selectors ss

    pub can_selector : F.Selector → Bool
    can_selector (name s) = true
    can_selector (index z) = true
    can_selector (slice a b c) = true
    can_selector wildcard = true
    can_selector (filter t) = can_test t

    pub can_test : F.Test → Bool
    can_test (exists q) = can_query q
    can_test (compare o a b) = can_argument a && can_argument b
    can_test (regex c a b) = can_argument a && can_argument b
    can_test (not t) = can_test t
    can_test (not_value f) = false
    can_test (both a b) = can_test a && can_test b
    can_test (either a b) = can_test a && can_test b

    pub can_argument : F.Argument → Bool
    can_argument (literal l) = can_literal l
    can_argument (singular q) = can_query q
    can_argument (value f) = can_function f

    pub can_function : F.Function → Bool
    can_function (count_of q) = can_query q
    can_function (length_of a) = can_argument a
    can_function (value_of q) = can_query q

  -- ---- the tree of a form, where some number literal stands for every float that passes the test

  module _ (write : (b : ℕ) → can b ≡ true → (n : Number) × (numeral n ≡ Numeral.float b)) where
    literal_tree : (l : F.Literal) → literal_right l ≡ true → can_literal l ≡ true → (x : G.Literal) × (walk_literal x ≡ fine l)
    unfolding literal_right walk_literal walk_numeral
    literal_tree null h w = (null_literal, refl)
    literal_tree (boolean true) h w = (true_literal, refl)
    literal_tree (boolean false) h w = (false_literal, refl)
    literal_tree (integer z) h w = let x = integer_written z h in (number_literal x.0, rw x.1 refl)
    literal_tree (float b) h w = let x = write b w in (number_literal x.0, rw x.1 refl)
    literal_tree (text s) h w = let x = text_written s h in (text_literal x.0, ap (λ (b : List ℕ). fine (text b)) x.1)

    mutual
      unfolding query_right segments_right selectors_right selector_right test_right argument_right function_right walk_segments walk_segment walk_bracketed walk_selectors walk_selector walk_or walk_more_or walk_and walk_more_and walk_basic walk_paren walk_test walk_filter_query walk_comparable walk_function walk_arguments walk_more_arguments walk_argument as_nodes as_value only call named same_bytes

      segments_tree : (q : F.Segments) → segments_right q ≡ true → can_segments q ≡ true → (x : G.Segments) × (walk_segments x ≡ fine q)
      segments_tree end h w = (no_segment, refl)
      segments_tree (child ss q) h w =
          let x = bracketed_tree ss (left (selectors_right ss) (segments_right q) h) (left (can_selectors ss) (can_segments q) w) in
          let y = segments_tree q (right (selectors_right ss) (segments_right q) h) (right (can_selectors ss) (can_segments q) w) in
          (more_segments no_blanks (child_brackets x.0) y.0, then _ (then (λ s. fine (child s)) x.1) ∙ then _ y.1)
      segments_tree (descendant ss q) h w =
          let x = bracketed_tree ss (left (selectors_right ss) (segments_right q) h) (left (can_selectors ss) (can_segments q) w) in
          let y = segments_tree q (right (selectors_right ss) (segments_right q) h) (right (can_selectors ss) (can_segments q) w) in
          (more_segments no_blanks (descendant_brackets x.0) y.0, then _ (then (λ s. fine (descendant s)) x.1) ∙ then _ y.1)

      bracketed_tree : (ss : F.Selectors) → selectors_right ss ≡ true → can_selectors ss ≡ true → (x : G.Bracketed) × (walk_bracketed x ≡ fine ss)
      bracketed_tree (one s) h w = let x = selector_tree s h w in (bracketed no_blanks x.0 no_selector no_blanks, then _ x.1)
      bracketed_tree (and s ss) h w =
          let x = selector_tree s (left (selector_right s) (selectors_right ss) h) (left (can_selector s) (can_selectors ss) w) in
          let y = selectors_tree ss (right (selector_right s) (selectors_right ss) h) (right (can_selector s) (can_selectors ss) w) in
          (bracketed no_blanks x.0 y.0 no_blanks, then _ x.1 ∙ y.1 s)

      selectors_tree : (ss : F.Selectors) → selectors_right ss ≡ true → can_selectors ss ≡ true → (x : G.Selectors) × ((s : F.Selector) → walk_selectors x s ≡ fine (and s ss))
      selectors_tree (one t) h w = let x = selector_tree t h w in (more_selectors no_blanks no_blanks x.0 no_selector, λ s. then _ x.1 ∙ then _ refl)
      selectors_tree (and t ss) h w =
          let x = selector_tree t (left (selector_right t) (selectors_right ss) h) (left (can_selector t) (can_selectors ss) w) in
          let y = selectors_tree ss (right (selector_right t) (selectors_right ss) h) (right (can_selector t) (can_selectors ss) w) in
          (more_selectors no_blanks no_blanks x.0 y.0, λ s. then _ x.1 ∙ then _ (y.1 t))

      selector_tree : (s : F.Selector) → selector_right s ≡ true → can_selector s ≡ true → (x : G.Selector) × (walk_selector x ≡ fine s)
      selector_tree (name s) h w = let x = text_written s h in (name_selector x.0, ap (λ (b : List ℕ). fine (name b)) x.1)
      selector_tree (index z) h w = let x = int_tree z h in (index_selector x.0, then (λ z. fine (index z)) x.1)
      selector_tree (slice a b c) h w =
          let r = right (bound_right a) (bound_right b && bound_right c) h in
          let x = slice_tree a b c (left (bound_right a) (bound_right b && bound_right c) h) (left (bound_right b) (bound_right c) r) (right (bound_right b) (bound_right c) r) in
          (slice_selector x.0, x.1)
      selector_tree wildcard h w = (wildcard_selector, refl)
      selector_tree (filter t) h w =
          let x = alone t (basic_tree t h w) in
          (filter_selector no_blanks x.0, then _ x.1 ∙ ap (λ (u : F.Test). fine (filter u)) (told_test t))

      basic_tree : (t : F.Test) → test_right t ≡ true → can_test t ≡ true → (x : G.Basic) × (walk_basic x ≡ fine (told t))
      basic_tree (exists q) h w = let x = query_tree q h w in (test_basic (query_test x.0), then _ x.1)
      basic_tree (compare p a b) h w =
          let x = comparable_tree a (left (argument_right a) (argument_right b) h) (left (can_argument a) (can_argument b) w) in
          let y = comparable_tree b (right (argument_right a) (argument_right b) h) (right (can_argument a) (can_argument b) w) in
          (comparison x.0 no_blanks (operator_tree p) no_blanks y.0, then _ x.1 ∙ then _ y.1 ∙ then _ x.2 ∙ then _ y.2 ∙ ap (λ (k : F.Operator). fine (logical (compare k a b))) (operator_back p))
      basic_tree (regex c a b) h w =
          let x = argument_tree a (left (argument_right a) (argument_right b) h) (left (can_argument a) (can_argument b) w) in
          let y = argument_tree b (right (argument_right a) (argument_right b) h) (right (can_argument a) (can_argument b) w) in
          (test_basic (function_test (function (scope_name c) no_blanks (arguments x.0 (more_arguments no_blanks no_blanks y.0 no_more)) no_blanks)), then _ (then _ x.1 ∙ then _ (then _ y.1 ∙ then _ refl)) ∙ scope_call c (operand_of a) (operand_of b) ∙ then _ x.2 ∙ then _ y.2)
      basic_tree (not t) h w =
          let x = alone t (basic_tree t h w) in
          (not_paren no_blanks (paren no_blanks x.0 no_blanks), then _ x.1 ∙ told_not t)
      basic_tree (not_value f) h w = absurd (false≢true w)
      basic_tree (both a b) h w =
          let x = basic_tree a (left (test_right a) (test_right b) h) (left (can_test a) (can_test b) w) in
          let y = basic_tree b (right (test_right a) (test_right b) h) (right (can_test a) (can_test b) w) in (
            paren_basic (paren no_blanks (logical_or (logical_and x.0 (more_and no_blanks no_blanks y.0 no_and)) no_or) no_blanks),
            then _ (then _ x.1 ∙ then _ (told_compared a) ∙ then _ y.1 ∙ then _ (told_compared b)) ∙ rw (told_test a, told_test b) refl,
          )
      basic_tree (either a b) h w =
          let x = basic_tree a (left (test_right a) (test_right b) h) (left (can_test a) (can_test b) w) in
          let y = basic_tree b (right (test_right a) (test_right b) h) (right (can_test a) (can_test b) w) in (
            paren_basic (paren no_blanks (logical_or (logical_and x.0 no_and) (more_or no_blanks no_blanks (logical_and y.0 no_and) no_or)) no_blanks),
            then _ (then _ x.1 ∙ then _ (told_compared a)) ∙ then _ (then _ y.1 ∙ then _ (told_compared b)) ∙ rw (told_test a, told_test b) refl,
          )

      query_tree : (q : F.Query) → query_right q ≡ true → can_query q ≡ true → (x : G.FilterQuery) × (walk_filter_query x ≡ fine q)
      query_tree (query root q) h w = let x = segments_tree q h w in (abs_query x.0, then _ x.1)
      query_tree (query current q) h w = let x = segments_tree q h w in (rel_query x.0, then _ x.1)

      comparable_tree : (a : F.Argument) → argument_right a ≡ true → can_argument a ≡ true → (x : G.Comparable) × (walk_comparable x ≡ fine (operand_of a)) × (as_value (operand_of a) ≡ fine a)
      comparable_tree (literal l) h w = let x = literal_tree l h w in (literal_comparable x.0, then _ x.1, refl)
      comparable_tree (singular q) h w =
          let s = left (is_singular q) (query_right q) h in
          let x = singular_tree q s (right (is_singular q) (query_right q) h) in
          (singular_comparable x.0, then _ x.1, rw s refl)
      comparable_tree (value f) h w = let x = function_tree f h w in (function_comparable x.0, then _ x.1, refl)

      argument_tree : (a : F.Argument) → argument_right a ≡ true → can_argument a ≡ true → (x : G.Argument) × (walk_argument x ≡ fine (operand_of a)) × (as_value (operand_of a) ≡ fine a)
      argument_tree (literal l) h w = let x = literal_tree l h w in (literal_argument x.0, then _ x.1, refl)
      argument_tree (singular q) h w =
          let s = left (is_singular q) (query_right q) h in
          let x = query_tree q (right (is_singular q) (query_right q) h) w in
          (query_argument x.0, then _ x.1, rw s refl)
      argument_tree (value f) h w = let x = function_tree f h w in (function_argument x.0, then _ x.1, refl)

      function_tree : (f : F.Function) → function_right f ≡ true → can_function f ≡ true → (x : G.Function) × (walk_function x ≡ fine (valued f))
      function_tree (count_of q) h w =
          let x = query_tree q h w in
          (function count_name no_blanks (arguments (query_argument x.0) no_more) no_blanks, then _ (then _ (then _ x.1) ∙ then _ refl) ∙ then _ refl)
      function_tree (length_of a) h w =
          let x = argument_tree a h w in
          (function length_name no_blanks (arguments x.0 no_more) no_blanks, then _ (then _ x.1 ∙ then _ refl) ∙ then _ x.2)
      function_tree (value_of q) h w =
          let x = query_tree q h w in
          (function value_word no_blanks (arguments (query_argument x.0) no_more) no_blanks, then _ (then _ (then _ x.1) ∙ then _ refl) ∙ then _ refl)

    -- Every query form that a query can write is the form of some tree.
    pub form_reached : (q : F.Query) → is_form q ≡ true → can_query q ≡ true → (t : G.Query) × (judge (walk t) ≡ form q)
    unfolding is_form starts_at_root query_right walk judge
    form_reached (query root q) h w =
        let x = segments_tree q (left (segments_right q) (leb (nesting (query root q)) max_nesting) h) w in
        (record { segments = x.0 }, ap judge (then _ x.1))
    form_reached (query current q) h w = absurd (false≢true h)

-- So every query form without floats and without `!` before a value function is the form of some tree, whatever number literals stand for.
pub form_reached_whole : (q : F.Query) → is_form q ≡ true → can_query (λ b. false) q ≡ true → (t : G.Query) × (judge (walk t) ≡ form q)
form_reached_whole q h w = form_reached (λ b. false) (λ b e. absurd (false≢true e)) q h w
