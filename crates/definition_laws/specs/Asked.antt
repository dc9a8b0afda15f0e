-- A form of a query is one that a query can write: no `!` stands before a value function in it, and its floats are those of number literals.
-- With Reached.antt this says exactly which query forms are forms of queries. Assumes nothing.
use Rattle.std.specs.Prelude.{ℕ, ◌↔◌, ◌≡◌, Bool}
use Rattle.std.proofs.Math.Path.{refl, subst}
use Rattle.std.proofs.Common.{ap}
use mathlib.Core.List.{List, [], ◌∷◌}
use Rattle.std.proofs.Math.Bool.{true, false}
use Rattle.std.proofs.lemmas.Bool.{false≢true}
use Rattle.definition.specs.Lexical.{Number, Slice, name_bytes, function_bytes}
use Rattle.definition.specs.Literals.{Numeral, numeral}
use Rattle.definition.specs.Grammar as G
use Rattle.definition.specs.Grammar.SingularSegment.{name_segment, dot_segment, index_segment}
use Rattle.definition.specs.Grammar.SingularSegments.{no_singular, more_singular}
use Rattle.definition.specs.Grammar.Singular.{rel_singular, abs_singular}
use Rattle.definition.specs.Grammar.Literal.{number_literal, text_literal, true_literal, false_literal, null_literal}
use Rattle.definition.specs.Grammar.Segments.{no_segment, more_segments}
use Rattle.definition.specs.Grammar.Segment.{child_brackets, child_wild, child_name, descendant_brackets, descendant_wild, descendant_name}
use Rattle.definition.specs.Grammar.Bracketed.{bracketed}
use Rattle.definition.specs.Grammar.Selectors.{no_selector, more_selectors}
use Rattle.definition.specs.Grammar.Selector.{name_selector, wildcard_selector, slice_selector, index_selector, filter_selector}
use Rattle.definition.specs.Grammar.LogicalOr.{logical_or}
use Rattle.definition.specs.Grammar.MoreOr.{no_or, more_or}
use Rattle.definition.specs.Grammar.LogicalAnd.{logical_and}
use Rattle.definition.specs.Grammar.MoreAnd.{no_and, more_and}
use Rattle.definition.specs.Grammar.Basic.{paren_basic, not_paren, comparison, test_basic, not_test}
use Rattle.definition.specs.Grammar.Paren.{paren}
use Rattle.definition.specs.Grammar.Test.{query_test, function_test}
use Rattle.definition.specs.Grammar.FilterQuery.{rel_query, abs_query}
use Rattle.definition.specs.Grammar.Comparable.{literal_comparable, singular_comparable, function_comparable}
use Rattle.definition.specs.Grammar.Function.{function}
use Rattle.definition.specs.Grammar.Arguments.{no_argument, arguments}
use Rattle.definition.specs.Grammar.MoreArguments.{no_more, more_arguments}
use Rattle.definition.specs.Grammar.Argument.{literal_argument, query_argument, logical_argument, function_argument}
use Rattle.regex_definition.specs.Scope.{Scope, whole, part}
use Rattle.definition.specs.Forms as F
use Rattle.definition.specs.Forms.{is_singular}
use Rattle.definition.specs.Forms.Test.{compare, regex, both, either}
use Rattle.definition.specs.QueryForms.{is_form}
use Rattle.definition.specs.Selecting.{Reading, judge}
use Rattle.definition.specs.Selecting.Reading.{form}
use Rattle.definition.specs.Walk.{Walked, Expression, Operand, Named, named, operator_form, as_test, negated, compared, as_nodes, as_value, only, as_regex, call, walk_int, walk_bound, walk_step, walk_slice, walk_numeral, walk_literal, walk_singular_segment, walk_singular_segments, walk_singular, walk_segments, walk_segment, walk_bracketed, walk_selectors, walk_selector, walk_or, walk_more_or, walk_and, walk_more_and, walk_basic, walk_paren, walk_test, walk_filter_query, walk_comparable, walk_function, walk_arguments, walk_more_arguments, walk_argument, walk}
use Rattle.definition.specs.Walk.Walked.{refused}
use Rattle.definition.specs.Walk.Expression.{nodes, valued, logical}
use Rattle.definition.specs.Walk.Operand.{constant, expression}
use Rattle.definition.specs.Walk.Named.{count, value_name, match, search, unknown}
use Rattle.compile_forms.specs.Gives.{Gives, then, weaken, tested}
use Rattle.compile_forms.specs.Gives.Gives.{nothing, gives}
use Rattle.compile_forms.specs.Shallow.{any}
use Rattle.definition_laws.specs.Reached.{can_literal, can_query, can_segments, can_selectors, can_selector, can_test, can_argument, can_function, form_reached}
use Rattle.basics.specs.Bools.{and_both}

-- ---- readings

abbrev has_form : Reading → Bool
has_form (Reading.refused n) = false
has_form (form q) = true

abbrev form_or : F.Query → Reading → F.Query
form_or x (Reading.refused n) = x
form_or x (form q) = q

module _ (can : ℕ → Bool) (floats : (n : Number) (b : ℕ) → numeral n ≡ Numeral.float b → can b ≡ true) where
  -- ---- what is known of what the walk comes to on the way

  -- an expression outside the chain of an argument
  abbrev Asked : Expression → Type 0
  Asked (nodes q) = can_query can q ≡ true
  Asked (valued f) = can_function can f ≡ true
  Asked (logical t) = can_test can t ≡ true

  -- An operand of a chain: where a value function alone is refused there is none. Straight in an argument there may be one, so of the chain's test nothing is known;
  -- no parameter takes such a chain.
  abbrev Chained : Bool → Expression → Type 0
  Chained true (nodes q) = can_query can q ≡ true
  Chained true (valued f) = ⊥
  Chained true (logical t) = can_test can t ≡ true
  Chained false (nodes q) = can_query can q ≡ true
  Chained false (valued f) = can_function can f ≡ true
  Chained false (logical t) = Unit {0}

  abbrev AskedOperand : Operand → Type 0
  AskedOperand (constant l) = can_literal can l ≡ true
  AskedOperand (expression e) = Chained false e

  abbrev AskedAll : List Operand → Type 0
  AskedAll [] = Unit {0}
  AskedAll (o ∷ os) = AskedOperand o × AskedAll os

  -- ---- tests

  chained_asked : (e : Expression) → Chained true e → Asked e
  chained_asked (nodes q) h = h
  chained_asked (valued f) h = absurd h
  chained_asked (logical t) h = h

  asked_chained : (e : Expression) → Asked e → Chained false e
  asked_chained (nodes q) h = h
  asked_chained (valued f) h = h
  asked_chained (logical t) h = tt

  chained_test : (e : Expression) → Chained true e → can_test can (as_test e) ≡ true
  unfolding as_test
  chained_test (nodes q) h = h
  chained_test (valued f) h = absurd h
  chained_test (logical t) h = h

  asked_not : (e : Expression) → Asked e → Gives Asked (negated e)
  unfolding negated
  asked_not (nodes q) h = gives h
  asked_not (valued f) h = nothing
  asked_not (logical t) h = gives h

  asked_compared : (a : Bool) (e : Expression) → Asked e → Gives (Chained a) (compared a e)
  unfolding compared
  asked_compared true (nodes q) h = gives h
  asked_compared false (nodes q) h = gives h
  asked_compared true (valued f) h = nothing
  asked_compared false (valued f) h = gives h
  asked_compared true (logical t) h = gives h
  asked_compared false (logical t) h = gives tt

  chained_both : (a : Bool) (e d : Expression) → Chained a e → Chained a d → Chained a (logical (both (as_test e) (as_test d)))
  chained_both true e d h k = and_both (can_test can (as_test e)) (can_test can (as_test d)) (chained_test e h) (chained_test d k)
  chained_both false e d h k = tt

  chained_either : (a : Bool) (e d : Expression) → Chained a e → Chained a d → Chained a (logical (either (as_test e) (as_test d)))
  chained_either true e d h k = and_both (can_test can (as_test e)) (can_test can (as_test d)) (chained_test e h) (chained_test d k)
  chained_either false e d h k = tt

  -- ---- operands and functions

  asked_value : (o : Operand) → AskedOperand o → Gives (λ a. can_argument can a ≡ true) (as_value o)
  unfolding as_value
  asked_value (constant l) h = gives h
  asked_value (expression (nodes q)) h = tested (is_singular q) (F.Argument.singular q) 5 (λ e. h)
  asked_value (expression (valued f)) h = gives h
  asked_value (expression (logical t)) h = nothing

  asked_nodes : (o : Operand) → AskedOperand o → Gives (λ q. can_query can q ≡ true) (as_nodes o)
  unfolding as_nodes
  asked_nodes (constant l) h = nothing
  asked_nodes (expression (nodes q)) h = gives h
  asked_nodes (expression (valued f)) h = nothing
  asked_nodes (expression (logical t)) h = nothing

  asked_compare : (o : F.Operator) (a b : F.Argument) → can_argument can a ≡ true → can_argument can b ≡ true → can_test can (compare o a b) ≡ true
  asked_compare o a b h k = and_both (can_argument can a) (can_argument can b) h k

  asked_only : {A : Type 0} {P : A → Type 0} (f : Operand → Walked A) → ((o : Operand) → AskedOperand o → Gives P (f o)) → (os : List Operand) → AskedAll os → Gives P (only os f)
  unfolding only
  asked_only f k [] h = nothing
  asked_only f k (x ∷ []) h = k x h.0
  asked_only f k (x ∷ y ∷ xs) h = nothing

  asked_regex : (s : Scope) (os : List Operand) → AskedAll os → Gives Asked (as_regex s os)
  unfolding as_regex
  asked_regex s [] h = nothing
  asked_regex s (x ∷ []) h = nothing
  asked_regex s (x ∷ y ∷ []) h =
      then (asked_value x h.0) (λ a ha. then (asked_value y h.1.0) (λ b hb. gives {x = logical (regex s a b)} (and_both (can_argument can a) (can_argument can b) ha hb)))
  asked_regex s (x ∷ y ∷ z ∷ xs) h = nothing

  asked_call : (f : Named) (os : List Operand) → AskedAll os → Gives Asked (call f os)
  unfolding call
  asked_call count os h = then (asked_only as_nodes asked_nodes os h) (λ q hq. gives hq)
  asked_call Named.length os h = then (asked_only as_value asked_value os h) (λ a ha. gives ha)
  asked_call value_name os h = then (asked_only as_nodes asked_nodes os h) (λ q hq. gives hq)
  asked_call match os h = asked_regex whole os h
  asked_call search os h = asked_regex part os h
  asked_call unknown os h = nothing

  -- ---- slices, literals, singular queries

  asked_slice : (s : Slice) → Gives (λ x. can_selector can x ≡ true) (walk_slice s)
  unfolding walk_slice
  asked_slice s = then (any (walk_bound s.start)) (λ a ha. then (any (walk_bound s.stop)) (λ b hb. then (any (walk_step s.by)) (λ c hc. gives refl)))

  -- a literal beyond the range of literals is null's form
  asked_numeral : (n : Numeral) → ((b : ℕ) → n ≡ Numeral.float b → can b ≡ true) → Gives (λ l. can_literal can l ≡ true) (walk_numeral n)
  unfolding walk_numeral
  asked_numeral (Numeral.integer z) h = gives refl
  asked_numeral (Numeral.float b) h = gives (h b refl)
  asked_numeral Numeral.beyond h = gives refl

  asked_literal : (l : G.Literal) → Gives (λ x. can_literal can x ≡ true) (walk_literal l)
  unfolding walk_literal
  asked_literal (number_literal n) = asked_numeral (numeral n) (floats n)
  asked_literal (text_literal t) = gives refl
  asked_literal true_literal = gives refl
  asked_literal false_literal = gives refl
  asked_literal null_literal = gives refl

  asked_singular_segment : (x : G.SingularSegment) → Gives (λ s. can_selector can s ≡ true) (walk_singular_segment x)
  unfolding walk_singular_segment
  asked_singular_segment (name_segment t) = gives refl
  asked_singular_segment (dot_segment n) = gives refl
  asked_singular_segment (index_segment i) = then (any (walk_int i)) (λ z hz. gives refl)

  asked_singular_segments : (xs : G.SingularSegments) → Gives (λ q. can_segments can q ≡ true) (walk_singular_segments xs)
  unfolding walk_singular_segments
  asked_singular_segments no_singular = gives refl
  asked_singular_segments (more_singular b x xs) =
      then (asked_singular_segment x) (λ s hs. then (asked_singular_segments xs) (λ q hq. gives (and_both (can_selector can s) (can_segments can q) hs hq)))

  asked_singular : (q : G.Singular) → Gives (λ x. can_query can x ≡ true) (walk_singular q)
  unfolding walk_singular
  asked_singular (rel_singular xs) = then (asked_singular_segments xs) (λ q hq. gives hq)
  asked_singular (abs_singular xs) = then (asked_singular_segments xs) (λ q hq. gives hq)

  -- ---- every tree of the grammar

  mutual
    unfolding walk_segments walk_segment walk_bracketed walk_selectors walk_selector walk_or walk_more_or walk_and walk_more_and walk_basic walk_paren walk_test walk_filter_query walk_comparable walk_function walk_arguments walk_more_arguments walk_argument

    segments : (t : G.Segments) → Gives (λ q. can_segments can q ≡ true) (walk_segments t)
    segments no_segment = gives refl
    segments (more_segments b x xs) = then (segment x) (λ s hs. then (segments xs) (λ q hq. gives (hs q hq)))

    segment : (t : G.Segment) → Gives (λ s. (q : F.Segments) → can_segments can q ≡ true → can_segments can (s q) ≡ true) (walk_segment t)
    segment (child_brackets x) = then (brackets x) (λ ss hs. gives {x = F.Segments.child ss} (λ q hq. and_both (can_selectors can ss) (can_segments can q) hs hq))
    segment child_wild = gives {x = F.Segments.child (F.Selectors.one F.Selector.wildcard)} (λ q hq. hq)
    segment (child_name n) = gives {x = F.Segments.child (F.Selectors.one (F.Selector.name (name_bytes n)))} (λ q hq. hq)
    segment (descendant_brackets x) = then (brackets x) (λ ss hs. gives {x = F.Segments.descendant ss} (λ q hq. and_both (can_selectors can ss) (can_segments can q) hs hq))
    segment descendant_wild = gives {x = F.Segments.descendant (F.Selectors.one F.Selector.wildcard)} (λ q hq. hq)
    segment (descendant_name n) = gives {x = F.Segments.descendant (F.Selectors.one (F.Selector.name (name_bytes n)))} (λ q hq. hq)

    brackets : (t : G.Bracketed) → Gives (λ ss. can_selectors can ss ≡ true) (walk_bracketed t)
    brackets (bracketed b x xs c) = then (selector x) (λ s hs. selectors xs s hs)

    selectors : (t : G.Selectors) (s : F.Selector) → can_selector can s ≡ true → Gives (λ ss. can_selectors can ss ≡ true) (walk_selectors t s)
    selectors no_selector s hs = gives hs
    selectors (more_selectors b c x xs) s hs = then (selector x) (λ t ht. then (selectors xs t ht) (λ ss hss. gives {x = F.Selectors.and s ss} (and_both (can_selector can s) (can_selectors can ss) hs hss)))

    selector : (t : G.Selector) → Gives (λ s. can_selector can s ≡ true) (walk_selector t)
    selector (name_selector t) = gives refl
    selector wildcard_selector = gives refl
    selector (slice_selector s) = asked_slice s
    selector (index_selector i) = then (any (walk_int i)) (λ z hz. gives refl)
    selector (filter_selector b e) = then (or_expr e true) (λ x hx. gives (chained_test x hx))

    or_expr : (t : G.LogicalOr) (a : Bool) → Gives (Chained a) (walk_or t a)
    or_expr (logical_or x xs) a = then (and_expr x a) (λ e he. ors xs a e he)

    ors : (t : G.MoreOr) (a : Bool) (e : Expression) → Chained a e → Gives (Chained a) (walk_more_or t a e)
    ors no_or a e he = gives he
    ors (more_or b c x xs) a e he = then (and_expr x a) (λ d hd. ors xs a (logical (either (as_test e) (as_test d))) (chained_either a e d he hd))

    and_expr : (t : G.LogicalAnd) (a : Bool) → Gives (Chained a) (walk_and t a)
    and_expr (logical_and x xs) a = then (basic x) (λ e he. then (asked_compared a e he) (λ f hf. ands xs a f hf))

    ands : (t : G.MoreAnd) (a : Bool) (e : Expression) → Chained a e → Gives (Chained a) (walk_more_and t a e)
    ands no_and a e he = gives he
    ands (more_and b c x xs) a e he = then (basic x) (λ d hd. then (asked_compared a d hd) (λ f hf. ands xs a (logical (both (as_test e) (as_test f))) (chained_both a e f he hf)))

    basic : (t : G.Basic) → Gives Asked (walk_basic t)
    basic (paren_basic p) = parens p
    basic (not_paren b p) = then (parens p) (λ e he. asked_not e he)
    basic (comparison x b o c y) =
        then (comparable x) (λ l hl. then (comparable y) (λ r hr. then (asked_value l hl) (λ a ha. then (asked_value r hr) (λ d hd. gives (asked_compare (operator_form o) a d ha hd)))))
    basic (test_basic t) = test t
    basic (not_test b t) = then (test t) (λ e he. asked_not e he)

    parens : (t : G.Paren) → Gives Asked (walk_paren t)
    parens (paren b e c) = weaken (or_expr e true) (λ x hx. chained_asked x hx)

    test : (t : G.Test) → Gives Asked (walk_test t)
    test (query_test q) = then (filter_query q) (λ x hx. gives hx)
    test (function_test f) = function_call f

    filter_query : (t : G.FilterQuery) → Gives (λ q. can_query can q ≡ true) (walk_filter_query t)
    filter_query (rel_query xs) = then (segments xs) (λ q hq. gives hq)
    filter_query (abs_query xs) = then (segments xs) (λ q hq. gives hq)

    comparable : (t : G.Comparable) → Gives AskedOperand (walk_comparable t)
    comparable (literal_comparable l) = then (asked_literal l) (λ x hx. gives hx)
    comparable (singular_comparable q) = then (asked_singular q) (λ x hx. gives hx)
    comparable (function_comparable f) = then (function_call f) (λ x hx. gives (asked_chained x hx))

    function_call : (t : G.Function) → Gives Asked (walk_function t)
    function_call (function f b xs c) = then (argument_list xs) (λ os hos. asked_call (named (function_bytes f)) os hos)

    argument_list : (t : G.Arguments) → Gives AskedAll (walk_arguments t)
    argument_list no_argument = gives tt
    argument_list (arguments x xs) = then (argument x) (λ o ho. then (furthers xs) (λ os hos. gives (ho, hos)))

    furthers : (t : G.MoreArguments) → Gives AskedAll (walk_more_arguments t)
    furthers no_more = gives tt
    furthers (more_arguments b c x xs) = then (argument x) (λ o ho. then (furthers xs) (λ os hos. gives (ho, hos)))

    argument : (t : G.Argument) → Gives AskedOperand (walk_argument t)
    argument (literal_argument l) = then (asked_literal l) (λ x hx. gives hx)
    argument (query_argument q) = then (filter_query q) (λ x hx. gives hx)
    argument (logical_argument e) = then (or_expr e false) (λ x hx. gives hx)
    argument (function_argument f) = then (function_call f) (λ x hx. gives (asked_chained x hx))

  -- ---- queries

  asked : (t : G.Query) → Gives (λ q. can_query can q ≡ true) (walk t)
  unfolding walk
  asked t = then (segments t.segments) (λ q hq. gives hq)

  -- where the walk comes to a form, it is the form that is judged
  judged_asked : {m : Walked F.Query} {q : F.Query} → Gives (λ x. can_query can x ≡ true) m → judge m ≡ form q → can_query can q ≡ true
  unfolding judge
  judged_asked nothing e = absurd (false≢true (ap has_form e))
  judged_asked (gives {b = true} h) e = absurd (false≢true (ap has_form e))
  judged_asked (gives {b = false} {x = x} h) e = subst (λ (z : F.Query). can_query can z ≡ true) (ap (form_or x) e) h

  -- The form of a query is one that a query can write.
  pub form_asked : (t : G.Query) (q : F.Query) → judge (walk t) ≡ form q → can_query can q ≡ true
  form_asked t q e = judged_asked (asked t) e

  -- A query form is the form of some tree exactly where a query can write it.
  pub forms_of_queries : ((b : ℕ) → can b ≡ true → (n : Number) × (numeral n ≡ Numeral.float b)) → (q : F.Query) → is_form q ≡ true → ((t : G.Query) × (judge (walk t) ≡ form q)) ↔ (can_query can q ≡ true)
  forms_of_queries write q h = (λ x. form_asked x.0 q x.1, λ w. form_reached can write q h w)
