-- What the walk comes to is right: indices, bounds and steps are in range, names and texts are UTF-8, integers are inside i64, floats are finite,
-- and the queries that stand for values are singular.
use Rattle.std.specs.Prelude.{◌≡◌, refl, Bool, true, false}
use Rattle.definition.specs.Lexical.{name_bytes, function_bytes}
use Rattle.definition.specs.Grammar as G
use Rattle.definition.specs.Grammar.Segments.{no_segment, more_segments}
use Rattle.definition.specs.Grammar.Segment.{child_brackets, child_wild, child_name, descendant_brackets, descendant_wild, descendant_name}
use Rattle.definition.specs.Grammar.Bracketed.{bracketed}
use Rattle.definition.specs.Grammar.Selectors.{no_selector, more_selectors}
use Rattle.definition.specs.Grammar.Selector.{name_selector, wildcard_selector, slice_selector, index_selector, filter_selector}
use Rattle.definition.specs.Grammar.LogicalOr.{logical_or}
use Rattle.definition.specs.Grammar.MoreOr.{no_or, more_or}
use Rattle.definition.specs.Grammar.LogicalAnd.{logical_and}
use Rattle.definition.specs.Grammar.MoreAnd.{no_and, more_and}
use Rattle.definition.specs.Grammar.Basic.{paren_basic, not_paren, comparison, test_basic, not_test}
use Rattle.definition.specs.Grammar.Paren.{paren}
use Rattle.definition.specs.Grammar.Test.{query_test, function_test}
use Rattle.definition.specs.Grammar.FilterQuery.{rel_query, abs_query}
use Rattle.definition.specs.Grammar.Comparable.{literal_comparable, singular_comparable, function_comparable}
use Rattle.definition.specs.Grammar.Function.{function}
use Rattle.definition.specs.Grammar.Arguments.{no_argument, arguments}
use Rattle.definition.specs.Grammar.MoreArguments.{no_more, more_arguments}
use Rattle.definition.specs.Grammar.Argument.{literal_argument, query_argument, logical_argument, function_argument}
use Rattle.definition.specs.Forms as F
use Rattle.definition.specs.Forms.Test.{both, either}
use Rattle.definition.specs.QueryForms.{query_right, segments_right, selectors_right, selector_right}
use Rattle.definition.specs.Walk.{Expression, named, operator_form, as_test, walk_segments, walk_segment, walk_bracketed, walk_selectors, walk_selector, walk_or, walk_more_or, walk_and, walk_more_and, walk_basic, walk_paren, walk_test, walk_filter_query, walk_comparable, walk_function, walk_arguments, walk_more_arguments, walk_argument, walk}
use Rattle.definition.specs.Walk.Expression.{logical}
use Rattle.basics.specs.Bools.{and_both}
use Rattle.compile_forms.specs.Gives.{Gives, then}
use Rattle.compile_forms.specs.Gives.Gives.{gives}
use Rattle.compile_forms.specs.Literal.{name_utf8, text_utf8}
use Rattle.compile_forms.specs.Rights.{RightExpression, RightOperand, RightAll, right_test, right_not, right_both, right_either, right_compared, right_value, right_compare, right_call, right_int, right_slice, right_literal, right_singular}

-- every tree of the grammar
mutual
  unfolding walk_segments walk_segment walk_bracketed walk_selectors walk_selector walk_or walk_more_or walk_and walk_more_and walk_basic walk_paren walk_test walk_filter_query walk_comparable walk_function walk_arguments walk_more_arguments walk_argument query_right segments_right selectors_right selector_right

  pub segments : (t : G.Segments) → Gives (λ q. segments_right q ≡ true) (walk_segments t)
  segments no_segment = gives refl
  segments (more_segments b x xs) = then (segment x) (λ s hs. then (segments xs) (λ q hq. gives (hs q hq)))

  pub segment : (t : G.Segment) → Gives (λ s. (q : F.Segments) → segments_right q ≡ true → segments_right (s q) ≡ true) (walk_segment t)
  segment (child_brackets x) = then (brackets x) (λ ss hs. gives {x = F.Segments.child ss} (λ q hq. and_both (selectors_right ss) (segments_right q) hs hq))
  segment child_wild = gives {x = F.Segments.child (F.Selectors.one F.Selector.wildcard)} (λ q hq. hq)
  segment (child_name n) = gives {x = F.Segments.child (F.Selectors.one (F.Selector.name (name_bytes n)))} (λ q hq. and_both _ (segments_right q) (name_utf8 n) hq)
  segment (descendant_brackets x) = then (brackets x) (λ ss hs. gives {x = F.Segments.descendant ss} (λ q hq. and_both (selectors_right ss) (segments_right q) hs hq))
  segment descendant_wild = gives {x = F.Segments.descendant (F.Selectors.one F.Selector.wildcard)} (λ q hq. hq)
  segment (descendant_name n) = gives {x = F.Segments.descendant (F.Selectors.one (F.Selector.name (name_bytes n)))} (λ q hq. and_both _ (segments_right q) (name_utf8 n) hq)

  pub brackets : (t : G.Bracketed) → Gives (λ ss. selectors_right ss ≡ true) (walk_bracketed t)
  brackets (bracketed b x xs c) = then (selector x) (λ s hs. selectors xs s hs)

  pub selectors : (t : G.Selectors) (s : F.Selector) → selector_right s ≡ true → Gives (λ ss. selectors_right ss ≡ true) (walk_selectors t s)
  selectors no_selector s hs = gives hs
  selectors (more_selectors b c x xs) s hs = then (selector x) (λ t ht. then (selectors xs t ht) (λ ss hss. gives {x = F.Selectors.and s ss} (and_both (selector_right s) (selectors_right ss) hs hss)))

  pub selector : (t : G.Selector) → Gives (λ s. selector_right s ≡ true) (walk_selector t)
  selector (name_selector t) = gives (text_utf8 t)
  selector wildcard_selector = gives refl
  selector (slice_selector s) = right_slice s
  selector (index_selector i) = then (right_int i) (λ z hz. gives hz)
  selector (filter_selector b e) = then (or_expr e true) (λ x hx. gives (right_test x hx))

  pub or_expr : (t : G.LogicalOr) (a : Bool) → Gives RightExpression (walk_or t a)
  or_expr (logical_or x xs) a = then (and_expr x a) (λ e he. ors xs a e he)

  pub ors : (t : G.MoreOr) (a : Bool) (e : Expression) → RightExpression e → Gives RightExpression (walk_more_or t a e)
  ors no_or a e he = gives he
  ors (more_or b c x xs) a e he = then (and_expr x a) (λ d hd. ors xs a (logical (either (as_test e) (as_test d))) (right_either e d he hd))

  pub and_expr : (t : G.LogicalAnd) (a : Bool) → Gives RightExpression (walk_and t a)
  and_expr (logical_and x xs) a = then (basic x) (λ e he. then (right_compared a e he) (λ f hf. ands xs a f hf))

  pub ands : (t : G.MoreAnd) (a : Bool) (e : Expression) → RightExpression e → Gives RightExpression (walk_more_and t a e)
  ands no_and a e he = gives he
  ands (more_and b c x xs) a e he = then (basic x) (λ d hd. then (right_compared a d hd) (λ f hf. ands xs a (logical (both (as_test e) (as_test f))) (right_both e f he hf)))

  pub basic : (t : G.Basic) → Gives RightExpression (walk_basic t)
  basic (paren_basic p) = parens p
  basic (not_paren b p) = then (parens p) (λ e he. right_not e he)
  basic (comparison x b o c y) =
      then (comparable x) (λ l hl. then (comparable y) (λ r hr. then (right_value l hl) (λ a ha. then (right_value r hr) (λ d hd. gives (right_compare (operator_form o) a d ha hd)))))
  basic (test_basic t) = test t
  basic (not_test b t) = then (test t) (λ e he. right_not e he)

  pub parens : (t : G.Paren) → Gives RightExpression (walk_paren t)
  parens (paren b e c) = or_expr e true

  pub test : (t : G.Test) → Gives RightExpression (walk_test t)
  test (query_test q) = then (filter_query q) (λ x hx. gives hx)
  test (function_test f) = function_call f

  pub filter_query : (t : G.FilterQuery) → Gives (λ q. query_right q ≡ true) (walk_filter_query t)
  filter_query (rel_query xs) = then (segments xs) (λ q hq. gives hq)
  filter_query (abs_query xs) = then (segments xs) (λ q hq. gives hq)

  pub comparable : (t : G.Comparable) → Gives RightOperand (walk_comparable t)
  comparable (literal_comparable l) = then (right_literal l) (λ x hx. gives hx)
  comparable (singular_comparable q) = then (right_singular q) (λ x hx. gives hx)
  comparable (function_comparable f) = then (function_call f) (λ x hx. gives hx)

  pub function_call : (t : G.Function) → Gives RightExpression (walk_function t)
  function_call (function f b xs c) = then (argument_list xs) (λ os hos. right_call (named (function_bytes f)) os hos)

  pub argument_list : (t : G.Arguments) → Gives RightAll (walk_arguments t)
  argument_list no_argument = gives tt
  argument_list (arguments x xs) = then (argument x) (λ o ho. then (furthers xs) (λ os hos. gives (ho, hos)))

  pub furthers : (t : G.MoreArguments) → Gives RightAll (walk_more_arguments t)
  furthers no_more = gives tt
  furthers (more_arguments b c x xs) = then (argument x) (λ o ho. then (furthers xs) (λ os hos. gives (ho, hos)))

  pub argument : (t : G.Argument) → Gives RightOperand (walk_argument t)
  argument (literal_argument l) = then (right_literal l) (λ x hx. gives hx)
  argument (query_argument q) = then (filter_query q) (λ x hx. gives hx)
  argument (logical_argument e) = then (or_expr e false) (λ x hx. gives hx)
  argument (function_argument f) = then (function_call f) (λ x hx. gives hx)

-- the form of a query is right
pub right : (t : G.Query) → Gives (λ q. query_right q ≡ true) (walk t)
unfolding walk query_right
right t = then (segments t.segments) (λ q hq. gives hq)
