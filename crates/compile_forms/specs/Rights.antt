-- What the walk puts together is right where its parts are: tests, operands, functions, slices, literals, singular queries.
use Rattle.std.specs.Prelude.{◌≡◌, refl, List, [], ◌∷◌, Bool, true, false, ◌&&◌}
use Rattle.definition.specs.Lexical.{Int, Bound, Step, Slice}
use Rattle.definition.specs.Lexical.Bound.{no_bound, bound}
use Rattle.definition.specs.Lexical.Step.{no_step, colon, step}
use Rattle.definition.specs.Literals.{int_value, in_range, Numeral, numeral}
use Rattle.definition.specs.Grammar as G
use Rattle.definition.specs.Grammar.SingularSegment.{name_segment, dot_segment, index_segment}
use Rattle.definition.specs.Grammar.SingularSegments.{no_singular, more_singular}
use Rattle.definition.specs.Grammar.Singular.{rel_singular, abs_singular}
use Rattle.definition.specs.Grammar.Literal.{number_literal, text_literal, true_literal, false_literal, null_literal}
use Rattle.regex_definition.specs.Scope.{Scope, whole, part}
use Rattle.definition.specs.Forms as F
use Rattle.definition.specs.Forms.{is_singular}
use Rattle.definition.specs.Forms.Test.{compare, regex, both, either}
use Rattle.definition.specs.QueryForms.{literal_right, bound_right, query_right, segments_right, selectors_right, selector_right, test_right, argument_right, function_right}
use Rattle.definition.specs.Walk.{Walked, Expression, Operand, Named, as_test, negated, compared, as_nodes, as_value, only, as_regex, call, walk_int, walk_bound, walk_step, walk_slice, walk_numeral, walk_literal, walk_singular_segment, walk_singular_segments, walk_singular}
use Rattle.definition.specs.Walk.Expression.{nodes, valued, logical}
use Rattle.definition.specs.Walk.Operand.{constant, expression}
use Rattle.definition.specs.Walk.Named.{count, value_name, match, search, unknown}
use Rattle.basics.specs.Bools.{and_both}
use Rattle.compile_forms.specs.Gives.{Gives, then, tested}
use Rattle.compile_forms.specs.Gives.Gives.{nothing, gives}
use Rattle.compile_forms.specs.Literal.{name_utf8, text_utf8, RightNumeral, numeral_right}

-- an expression, an operand and all operands of a call are right
abbrev pub RightExpression : Expression → Type 0
RightExpression (nodes q) = query_right q ≡ true
RightExpression (valued f) = function_right f ≡ true
RightExpression (logical t) = test_right t ≡ true

abbrev pub RightOperand : Operand → Type 0
RightOperand (constant l) = literal_right l ≡ true
RightOperand (expression e) = RightExpression e

abbrev pub RightAll : List Operand → Type 0
RightAll [] = Unit {0}
RightAll (o ∷ os) = RightOperand o × RightAll os

-- ---- tests

-- an expression as a test, and its negation
pub right_test : (e : Expression) → RightExpression e → test_right (as_test e) ≡ true
unfolding as_test test_right
right_test (nodes q) h = h
right_test (valued f) h = h
right_test (logical t) h = h

pub right_not : (e : Expression) → RightExpression e → Gives RightExpression (negated e)
unfolding negated test_right
right_not (nodes q) h = gives h
right_not (valued f) h = nothing
right_not (logical t) h = gives h

-- `&&` and `||`
pub right_both : (e d : Expression) → RightExpression e → RightExpression d → test_right (both (as_test e) (as_test d)) ≡ true
unfolding test_right
right_both e d h k = and_both (test_right (as_test e)) (test_right (as_test d)) (right_test e h) (right_test d k)

pub right_either : (e d : Expression) → RightExpression e → RightExpression d → test_right (either (as_test e) (as_test d)) ≡ true
unfolding test_right
right_either e d h k = and_both (test_right (as_test e)) (test_right (as_test d)) (right_test e h) (right_test d k)

-- the judgement of a value function alone passes what it is given
pub right_compared : (a : Bool) (e : Expression) → RightExpression e → Gives RightExpression (compared a e)
unfolding compared
right_compared true (nodes q) h = gives h
right_compared false (nodes q) h = gives h
right_compared true (valued f) h = nothing
right_compared false (valued f) h = gives h
right_compared true (logical t) h = gives h
right_compared false (logical t) h = gives h

-- ---- operands and functions

-- a query is taken for a value only where it is singular
pub right_value : (o : Operand) → RightOperand o → Gives (λ a. argument_right a ≡ true) (as_value o)
unfolding as_value argument_right
right_value (constant l) h = gives h
right_value (expression (nodes q)) h = tested (is_singular q) (F.Argument.singular q) 5 (λ e. and_both (is_singular q) (query_right q) e h)
right_value (expression (valued f)) h = gives h
right_value (expression (logical t)) h = nothing

-- a query as nodes
right_nodes : (o : Operand) → RightOperand o → Gives (λ q. query_right q ≡ true) (as_nodes o)
unfolding as_nodes
right_nodes (constant l) h = nothing
right_nodes (expression (nodes q)) h = gives h
right_nodes (expression (valued f)) h = nothing
right_nodes (expression (logical t)) h = nothing

-- a comparison
pub right_compare : (o : F.Operator) (a b : F.Argument) → argument_right a ≡ true → argument_right b ≡ true → test_right (compare o a b) ≡ true
unfolding test_right
right_compare o a b h k = and_both (argument_right a) (argument_right b) h k

-- the one argument of a function, and the two of match and search
right_only : {A : Type 0} {P : A → Type 0} (f : Operand → Walked A) → ((o : Operand) → RightOperand o → Gives P (f o)) → (os : List Operand) → RightAll os → Gives P (only os f)
unfolding only
right_only f k [] h = nothing
right_only f k (x ∷ []) h = k x h.0
right_only f k (x ∷ y ∷ xs) h = nothing

right_regex : (s : Scope) (os : List Operand) → RightAll os → Gives RightExpression (as_regex s os)
unfolding as_regex test_right
right_regex s [] h = nothing
right_regex s (x ∷ []) h = nothing
right_regex s (x ∷ y ∷ []) h = then (right_value x h.0) (λ a ha. then (right_value y h.1.0) (λ b hb. gives {x = logical (regex s a b)} (and_both (argument_right a) (argument_right b) ha hb)))
right_regex s (x ∷ y ∷ z ∷ xs) h = nothing

-- a call
pub right_call : (f : Named) (os : List Operand) → RightAll os → Gives RightExpression (call f os)
unfolding call function_right
right_call count os h = then (right_only as_nodes right_nodes os h) (λ q hq. gives hq)
right_call Named.length os h = then (right_only as_value right_value os h) (λ a ha. gives ha)
right_call value_name os h = then (right_only as_nodes right_nodes os h) (λ q hq. gives hq)
right_call match os h = right_regex whole os h
right_call search os h = right_regex part os h
right_call unknown os h = nothing

-- ---- whole numbers, slices, literals

-- indices, bounds and steps are in range
pub right_int : (i : Int) → Gives (λ z. in_range z ≡ true) (walk_int i)
unfolding walk_int
right_int i = tested (in_range (int_value i)) (int_value i) 4 (λ e. e)

right_bound : (b : Bound) → Gives (λ z. bound_right z ≡ true) (walk_bound b)
unfolding walk_bound bound_right
right_bound no_bound = gives refl
right_bound (bound i b) = then (right_int i) (λ z hz. gives hz)

right_step : (s : Step) → Gives (λ z. bound_right z ≡ true) (walk_step s)
unfolding walk_step bound_right
right_step no_step = gives refl
right_step colon = gives refl
right_step (step b i) = then (right_int i) (λ z hz. gives hz)

pub right_slice : (s : Slice) → Gives (λ x. selector_right x ≡ true) (walk_slice s)
unfolding walk_slice selector_right
right_slice s =
    then (right_bound s.start) (λ a ha.
    then (right_bound s.stop) (λ b hb.
    then (right_step s.by) (λ c hc. gives (and_both (bound_right a) (bound_right b && bound_right c) ha (and_both (bound_right b) (bound_right c) hb hc)))))

-- literals, where one beyond the exact range stands for null
right_numeral : (n : Numeral) → RightNumeral n → Gives (λ l. literal_right l ≡ true) (walk_numeral n)
unfolding walk_numeral literal_right
right_numeral (Numeral.integer z) h = gives h
right_numeral (Numeral.float b) h = gives h
right_numeral Numeral.beyond h = gives refl

pub right_literal : (l : G.Literal) → Gives (λ x. literal_right x ≡ true) (walk_literal l)
unfolding walk_literal literal_right
right_literal (number_literal n) = right_numeral (numeral n) (numeral_right n)
right_literal (text_literal t) = gives (text_utf8 t)
right_literal true_literal = gives refl
right_literal false_literal = gives refl
right_literal null_literal = gives refl

-- ---- singular queries

-- names are UTF-8 and indices in range
right_singular_segment : (x : G.SingularSegment) → Gives (λ s. selector_right s ≡ true) (walk_singular_segment x)
unfolding walk_singular_segment selector_right
right_singular_segment (name_segment t) = gives (text_utf8 t)
right_singular_segment (dot_segment n) = gives (name_utf8 n)
right_singular_segment (index_segment i) = then (right_int i) (λ z hz. gives hz)

right_singular_segments : (xs : G.SingularSegments) → Gives (λ q. segments_right q ≡ true) (walk_singular_segments xs)
unfolding walk_singular_segments segments_right selectors_right
right_singular_segments no_singular = gives refl
right_singular_segments (more_singular b x xs) = then (right_singular_segment x) (λ s hs. then (right_singular_segments xs) (λ q hq. gives (and_both (selector_right s) (segments_right q) hs hq)))

pub right_singular : (q : G.Singular) → Gives (λ x. query_right x ≡ true) (walk_singular q)
unfolding walk_singular query_right
right_singular (rel_singular xs) = then (right_singular_segments xs) (λ q hq. gives hq)
right_singular (abs_singular xs) = then (right_singular_segments xs) (λ q hq. gives hq)
