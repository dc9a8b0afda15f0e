-- What compiles nests at most 128 deep: where n brackets are open a query of the form nests at most 128 less 4 times n deep.
use Rattle.std.specs.Prelude.{ℕ, suc, ◌≤◌, ◌≡◌, refl, List, [], ◌∷◌, Bool, true, false}
use Rattle.std.proofs.Common.{arith}
use Rattle.definition.specs.Limits.{max_nesting}
use Rattle.definition.specs.Brackets.{too_deep}
use Rattle.definition.specs.Lexical.{name_bytes, function_bytes}
use Rattle.definition.specs.Literals.{text_bytes}
use Rattle.definition.specs.Grammar as G
use Rattle.definition.specs.Grammar.{spell, spell_segments, spell_segment, spell_bracketed, spell_selectors, spell_selector, spell_logical_or, spell_more_or, spell_logical_and, spell_more_and, spell_basic, spell_paren, spell_test, spell_filter_query, spell_comparable, spell_function, spell_arguments, spell_more_arguments, spell_argument}
use Rattle.definition.specs.Grammar.Segments.{no_segment, more_segments}
use Rattle.definition.specs.Grammar.Segment.{child_brackets, child_wild, child_name, descendant_brackets, descendant_wild, descendant_name}
use Rattle.definition.specs.Grammar.Bracketed.{bracketed}
use Rattle.definition.specs.Grammar.Selectors.{no_selector, more_selectors}
use Rattle.definition.specs.Grammar.Selector.{name_selector, wildcard_selector, slice_selector, index_selector, filter_selector}
use Rattle.definition.specs.Grammar.LogicalOr.{logical_or}
use Rattle.definition.specs.Grammar.MoreOr.{no_or, more_or}
use Rattle.definition.specs.Grammar.LogicalAnd.{logical_and}
use Rattle.definition.specs.Grammar.MoreAnd.{no_and, more_and}
use Rattle.definition.specs.Grammar.Basic.{paren_basic, not_paren, comparison, test_basic, not_test}
use Rattle.definition.specs.Grammar.Paren.{paren}
use Rattle.definition.specs.Grammar.Test.{query_test, function_test}
use Rattle.definition.specs.Grammar.FilterQuery.{rel_query, abs_query}
use Rattle.definition.specs.Grammar.Comparable.{literal_comparable, singular_comparable, function_comparable}
use Rattle.definition.specs.Grammar.Function.{function}
use Rattle.definition.specs.Grammar.Arguments.{no_argument, arguments}
use Rattle.definition.specs.Grammar.MoreArguments.{no_more, more_arguments}
use Rattle.definition.specs.Grammar.Argument.{literal_argument, query_argument, logical_argument, function_argument}
use Rattle.definition.specs.Forms as F
use Rattle.definition.specs.Forms.Test.{both, either}
use Rattle.definition.specs.QueryForms.{nesting, nesting_segments, nesting_selectors, nesting_selector}
use Rattle.definition.specs.Walk.{Expression, named, operator_form, as_test, walk_int, walk_literal, walk_segments, walk_segment, walk_bracketed, walk_selectors, walk_selector, walk_or, walk_more_or, walk_and, walk_more_and, walk_basic, walk_paren, walk_test, walk_filter_query, walk_comparable, walk_function, walk_arguments, walk_more_arguments, walk_argument, walk}
use Rattle.definition.specs.Walk.Expression.{nodes, logical}
use Rattle.definition.specs.Walk.Operand.{expression}
use Rattle.compile_forms.specs.Gives.{Gives, weaken, then}
use Rattle.compile_forms.specs.Gives.Gives.{gives}
use Rattle.compile_forms.specs.Bracket.{Low, low, skip, skip_run, open_square, open_round}
use Rattle.compile_forms.specs.Leaves.{blanks, function_name, operator}
use Rattle.compile_forms.specs.Passes as P
use Rattle.compile_forms.specs.Shallow.{Shallow, ShallowOperand, ShallowAll, ShallowQuery, ShallowSegments, ShallowSelectors, ShallowSelector}
use Rattle.compile_forms.specs.Shallow.{shallow_more, shallow_not, shallow_paren, shallow_both, shallow_either, shallow_compared, shallow_filter, shallow_value, shallow_compare, shallow_call, any, shallow_slice, shallow_singular}

-- every tree of the grammar: h says that the count stays within 32 over its spelling and the rest r
mutual
  unfolding walk_segments walk_segment walk_bracketed walk_selectors walk_selector walk_or walk_more_or walk_and walk_more_and walk_basic walk_paren walk_test walk_filter_query walk_comparable walk_function walk_arguments walk_more_arguments walk_argument nesting nesting_segments nesting_selectors nesting_selector

  pub segments : (t : G.Segments) {n : ℕ} (r : List ℕ) → Low n (spell_segments t r) → Gives (ShallowSegments n) (walk_segments t)
  segments no_segment {n} r h = gives {x = F.Segments.end} (omega (arith, low h))
  segments (more_segments b x xs) {n} r h =
      let k = blanks b h in
      then (segment x _ k) (λ s hs. then (segments xs _ (P.segment x k)) (λ q hq. gives (hs q hq)))

  pub segment : (t : G.Segment) {n : ℕ} (r : List ℕ) → Low n (spell_segment t r) → Gives (λ s. (q : F.Segments) → ShallowSegments n q → ShallowSegments n (s q)) (walk_segment t)
  segment (child_brackets x) {n} r h = then (brackets x _ h) (λ ss hs. gives {x = F.Segments.child ss} (λ q hq. omega arith))
  segment child_wild {n} r h = gives {x = F.Segments.child (F.Selectors.one F.Selector.wildcard)} (λ q hq. omega arith)
  segment (child_name t) {n} r h = gives {x = F.Segments.child (F.Selectors.one (F.Selector.name (name_bytes t)))} (λ q hq. omega arith)
  segment (descendant_brackets x) {n} r h = then (brackets x _ (skip_run (0x2E ∷ 0x2E ∷ []) refl h)) (λ ss hs. gives {x = F.Segments.descendant ss} (λ q hq. omega arith))
  segment descendant_wild {n} r h = gives {x = F.Segments.descendant (F.Selectors.one F.Selector.wildcard)} (λ q hq. omega arith)
  segment (descendant_name t) {n} r h = gives {x = F.Segments.descendant (F.Selectors.one (F.Selector.name (name_bytes t)))} (λ q hq. omega arith)

  -- selectors stand inside a bracket
  pub brackets : (t : G.Bracketed) {n : ℕ} (r : List ℕ) → Low n (spell_bracketed t r) → Gives (ShallowSelectors (suc n)) (walk_bracketed t)
  brackets (bracketed b x xs c) {n} r h =
      let k = blanks b (open_square h) in
      then (selector x _ k) (λ s hs. selectors xs s _ (P.selector x k) hs)

  pub selectors : (t : G.Selectors) (s : F.Selector) {n : ℕ} (r : List ℕ) → Low n (spell_selectors t r) → ShallowSelector n s → Gives (ShallowSelectors n) (walk_selectors t s)
  selectors no_selector s {n} r h hs = gives hs
  selectors (more_selectors b c x xs) s {n} r h hs =
      let k = blanks c (skip 0x2C refl (blanks b h)) in
      then (selector x _ k) (λ t ht. then (selectors xs t _ (P.selector x k) ht) (λ ss hss. gives {x = F.Selectors.and s ss} (omega arith)))

  pub selector : (t : G.Selector) {n : ℕ} (r : List ℕ) → Low n (spell_selector t r) → Gives (ShallowSelector n) (walk_selector t)
  selector (name_selector t) {n} r h = gives {x = F.Selector.name (text_bytes t)} (omega (arith, low h))
  selector wildcard_selector {n} r h = gives {x = F.Selector.wildcard} (omega (arith, low h))
  selector (slice_selector s) {n} r h = weaken (shallow_slice s) (λ x hx. omega (arith, low h))
  selector (index_selector i) {n} r h = then (any (walk_int i)) (λ z hz. gives {x = F.Selector.index z} (omega (arith, low h)))
  selector (filter_selector b e) {n} r h = then (or_expr e true _ (blanks b (skip 0x3F refl h))) (λ x hx. gives (shallow_filter n x hx))

  pub or_expr : (t : G.LogicalOr) (a : Bool) {n : ℕ} (r : List ℕ) → Low n (spell_logical_or t r) → Gives (Shallow 3 n) (walk_or t a)
  or_expr (logical_or x xs) a {n} r h = then (and_expr x a _ h) (λ e he. ors xs a e _ (P.and_expr x h) (shallow_more 2 3 n e (omega arith) he))

  pub ors : (t : G.MoreOr) (a : Bool) (e : Expression) {n : ℕ} (r : List ℕ) → Low n (spell_more_or t r) → Shallow 3 n e → Gives (Shallow 3 n) (walk_more_or t a e)
  ors no_or a e {n} r h he = gives he
  ors (more_or b c x xs) a e {n} r h he =
      let k = blanks c (skip_run (0x7C ∷ 0x7C ∷ []) refl (blanks b h)) in
      then (and_expr x a _ k) (λ d hd. ors xs a (logical (either (as_test e) (as_test d))) _ (P.and_expr x k) (shallow_either n e d he hd))

  pub and_expr : (t : G.LogicalAnd) (a : Bool) {n : ℕ} (r : List ℕ) → Low n (spell_logical_and t r) → Gives (Shallow 2 n) (walk_and t a)
  and_expr (logical_and x xs) a {n} r h =
      then (basic x _ h) (λ e he. then (shallow_compared 1 n a e he) (λ f hf. ands xs a f _ (P.basic x h) (shallow_more 1 2 n f (omega arith) hf)))

  pub ands : (t : G.MoreAnd) (a : Bool) (e : Expression) {n : ℕ} (r : List ℕ) → Low n (spell_more_and t r) → Shallow 2 n e → Gives (Shallow 2 n) (walk_more_and t a e)
  ands no_and a e {n} r h he = gives he
  ands (more_and b c x xs) a e {n} r h he =
      let k = blanks c (skip_run (0x26 ∷ 0x26 ∷ []) refl (blanks b h)) in
      then (basic x _ k) (λ d hd. then (shallow_compared 1 n a d hd) (λ f hf. ands xs a (logical (both (as_test e) (as_test f))) _ (P.basic x k) (shallow_both n e f he hf)))

  pub basic : (t : G.Basic) {n : ℕ} (r : List ℕ) → Low n (spell_basic t r) → Gives (Shallow 1 n) (walk_basic t)
  basic (paren_basic p) {n} r h = weaken (parens p _ h) (λ e he. shallow_more 0 1 n e (omega arith) he)
  basic (not_paren b p) {n} r h = then (parens p _ (blanks b (skip 0x21 refl h))) (λ e he. shallow_not n e he)
  basic (comparison x b o c y) {n} r h =
      let k = blanks c (operator o (blanks b (P.comparable x h))) in
      then (comparable x _ h) (λ l hl. then (comparable y _ k) (λ r hr. then (shallow_value n l hl) (λ a ha. then (shallow_value n r hr) (λ d hd. gives (shallow_compare n (operator_form o) a d ha hd)))))
  basic (test_basic t) {n} r h = weaken (test t _ h) (λ e he. shallow_more 0 1 n e (omega arith) he)
  basic (not_test b t) {n} r h = then (test t _ (blanks b (skip 0x21 refl h))) (λ e he. shallow_not n e he)

  pub parens : (t : G.Paren) {n : ℕ} (r : List ℕ) → Low n (spell_paren t r) → Gives (Shallow 0 n) (walk_paren t)
  parens (paren b e c) {n} r h = weaken (or_expr e true _ (blanks b (open_round h))) (λ x hx. shallow_paren n x hx)

  pub test : (t : G.Test) {n : ℕ} (r : List ℕ) → Low n (spell_test t r) → Gives (Shallow 0 n) (walk_test t)
  test (query_test q) {n} r h = then (filter_query q _ h) (λ x hx. gives hx)
  test (function_test f) {n} r h = function_call f _ h

  pub filter_query : (t : G.FilterQuery) {n : ℕ} (r : List ℕ) → Low n (spell_filter_query t r) → Gives (ShallowQuery n) (walk_filter_query t)
  filter_query (rel_query xs) {n} r h = then (segments xs _ (skip 0x40 refl h)) (λ q hq. gives hq)
  filter_query (abs_query xs) {n} r h = then (segments xs _ (skip 0x24 refl h)) (λ q hq. gives hq)

  pub comparable : (t : G.Comparable) {n : ℕ} (r : List ℕ) → Low n (spell_comparable t r) → Gives (ShallowOperand n) (walk_comparable t)
  comparable (literal_comparable l) {n} r h = then (any (walk_literal l)) (λ x hx. gives (low h))
  comparable (singular_comparable q) {n} r h = then (shallow_singular q) (λ x hx. gives {x = expression (nodes x)} (omega (arith, low h)))
  comparable (function_comparable f) {n} r h = then (function_call f _ h) (λ x hx. gives (shallow_more 0 3 n x (omega arith) hx))

  pub function_call : (t : G.Function) {n : ℕ} (r : List ℕ) → Low n (spell_function t r) → Gives (Shallow 0 n) (walk_function t)
  function_call (function f b xs c) {n} r h = then (argument_list xs _ (blanks b (open_round (function_name f h)))) (λ os hos. shallow_call n (named (function_bytes f)) os hos)

  pub argument_list : (t : G.Arguments) {n : ℕ} (r : List ℕ) → Low n (spell_arguments t r) → Gives (ShallowAll n) (walk_arguments t)
  argument_list no_argument {n} r h = gives tt
  argument_list (arguments x xs) {n} r h = then (argument x _ h) (λ o ho. then (furthers xs _ (P.argument x h)) (λ os hos. gives (ho, hos)))

  pub furthers : (t : G.MoreArguments) {n : ℕ} (r : List ℕ) → Low n (spell_more_arguments t r) → Gives (ShallowAll n) (walk_more_arguments t)
  furthers no_more {n} r h = gives tt
  furthers (more_arguments b c x xs) {n} r h =
      let k = blanks c (skip 0x2C refl (blanks b h)) in
      then (argument x _ k) (λ o ho. then (furthers xs _ (P.argument x k)) (λ os hos. gives (ho, hos)))

  pub argument : (t : G.Argument) {n : ℕ} (r : List ℕ) → Low n (spell_argument t r) → Gives (ShallowOperand n) (walk_argument t)
  argument (literal_argument l) {n} r h = then (any (walk_literal l)) (λ x hx. gives (low h))
  argument (query_argument q) {n} r h = then (filter_query q _ h) (λ x hx. gives hx)
  argument (logical_argument e) {n} r h = then (or_expr e false _ h) (λ x hx. gives hx)
  argument (function_argument f) {n} r h = then (function_call f _ h) (λ x hx. gives (shallow_more 0 3 n x (omega arith) hx))

-- the form of a query whose spelling passes refusal 3
pub nested : (t : G.Query) → too_deep (spell t) ≡ false → Gives (λ q. nesting q ≤ max_nesting) (walk t)
unfolding walk too_deep nesting
nested t e = then (segments t.segments [] (skip 0x24 refl (record { is = e }))) (λ q hq. gives {x = F.Query.query F.Start.root q} (omega arith))
