-- What stands in for a part that has no form is in no form: the walk of a query that has one meets no literal beyond the range of literals,
-- and no chain straight in an argument, in which a value function could be an operand. Assumes nothing.
use Rattle.std.specs.Prelude.{◌≡◌, refl, List, [], ◌∷◌, Bool, true, false, not, ◌&&◌}
use Rattle.std.proofs.Common.{sym, ap, subst, ◌∙◌, true≢false}
use Rattle.std.proofs.lemmas.Bool.{false≢true}
use Rattle.definition.specs.Lexical.{Blanks, function_bytes}
use Rattle.definition.specs.Literals.{Numeral, numeral}
use Rattle.definition.specs.Grammar as G
use Rattle.definition.specs.Grammar.Literal.{number_literal, text_literal, true_literal, false_literal, null_literal}
use Rattle.definition.specs.Grammar.Segments.{no_segment, more_segments}
use Rattle.definition.specs.Grammar.Segment.{child_brackets, child_wild, child_name, descendant_brackets, descendant_wild, descendant_name}
use Rattle.definition.specs.Grammar.Bracketed.{bracketed}
use Rattle.definition.specs.Grammar.Selectors.{no_selector, more_selectors}
use Rattle.definition.specs.Grammar.Selector.{name_selector, wildcard_selector, slice_selector, index_selector, filter_selector}
use Rattle.definition.specs.Grammar.LogicalOr.{logical_or}
use Rattle.definition.specs.Grammar.MoreOr.{no_or, more_or}
use Rattle.definition.specs.Grammar.LogicalAnd.{logical_and}
use Rattle.definition.specs.Grammar.MoreAnd.{no_and, more_and}
use Rattle.definition.specs.Grammar.Basic.{paren_basic, not_paren, comparison, test_basic, not_test}
use Rattle.definition.specs.Grammar.Paren.{paren}
use Rattle.definition.specs.Grammar.Test.{query_test, function_test}
use Rattle.definition.specs.Grammar.FilterQuery.{rel_query, abs_query}
use Rattle.definition.specs.Grammar.Comparable.{literal_comparable, singular_comparable, function_comparable}
use Rattle.definition.specs.Grammar.Function.{function}
use Rattle.definition.specs.Grammar.Arguments.{no_argument, arguments}
use Rattle.definition.specs.Grammar.MoreArguments.{no_more, more_arguments}
use Rattle.definition.specs.Grammar.Argument.{literal_argument, query_argument, logical_argument, function_argument}
use Rattle.regex_definition.specs.Scope.{Scope, whole, part}
use Rattle.definition.specs.Forms as F
use Rattle.definition.specs.Walk.{Walked, Expression, Operand, Named, fine, also, next, walk_numeral, walk_literal, compared, as_nodes, as_value, named, only, as_regex, call, walk_segments, walk_segment, walk_bracketed, walk_selectors, walk_selector, walk_or, walk_more_or, walk_and, walk_more_and, walk_basic, walk_paren, walk_test, walk_filter_query, walk_comparable, walk_function, walk_arguments, walk_more_arguments, walk_argument, walk}
use Rattle.definition.specs.Walk.Walked.{refused, walked}
use Rattle.definition.specs.Walk.Expression.{nodes, valued, logical}
use Rattle.definition.specs.Walk.Operand.{constant, expression}
use Rattle.definition.specs.Walk.Named.{count, length, value_name, match, search, unknown}
use Rattle.definition.specs.Selecting.{Reading, judge}
use Rattle.definition.specs.Selecting.Reading.{form}
use Rattle.basics.specs.Bools.{both_true as both}

-- ---- the trees whose walk needs no stand-in

abbrev pub is_beyond : Numeral → Bool
is_beyond (Numeral.integer z) = false
is_beyond (Numeral.float b) = false
is_beyond Numeral.beyond = true

abbrev pub plain_literal : G.Literal → Bool
plain_literal (number_literal n) = not (is_beyond (numeral n))
plain_literal (text_literal t) = true
plain_literal true_literal = true
plain_literal false_literal = true
plain_literal null_literal = true

abbrev is_chain : G.LogicalAnd → Bool
is_chain (logical_and x no_and) = false
is_chain (logical_and x (more_and b c y ys)) = true

-- one operand, and no chain
abbrev pub is_lone : G.LogicalOr → Bool
is_lone (logical_or (logical_and x no_and) no_or) = true
is_lone (logical_or (logical_and x no_and) (more_or b c y ys)) = false
is_lone (logical_or (logical_and x (more_and b c y ys)) v) = false

abbrev mutual
  pub plain_segments : G.Segments → Bool
  plain_segments no_segment = true
  plain_segments (more_segments b x xs) = plain_segment x && plain_segments xs

  pub plain_segment : G.Segment → Bool
  plain_segment (child_brackets x) = plain_bracketed x
  plain_segment child_wild = true
  plain_segment (child_name n) = true
  plain_segment (descendant_brackets x) = plain_bracketed x
  plain_segment descendant_wild = true
  plain_segment (descendant_name n) = true

  pub plain_bracketed : G.Bracketed → Bool
  plain_bracketed (bracketed b x xs c) = plain_selector x && plain_selectors xs

  pub plain_selectors : G.Selectors → Bool
  plain_selectors no_selector = true
  plain_selectors (more_selectors b c x xs) = plain_selector x && plain_selectors xs

  pub plain_selector : G.Selector → Bool
  plain_selector (name_selector t) = true
  plain_selector wildcard_selector = true
  plain_selector (slice_selector s) = true
  plain_selector (index_selector i) = true
  plain_selector (filter_selector b e) = plain_or e

  pub plain_or : G.LogicalOr → Bool
  plain_or (logical_or x xs) = plain_and x && plain_more_or xs

  pub plain_more_or : G.MoreOr → Bool
  plain_more_or no_or = true
  plain_more_or (more_or b c x xs) = plain_and x && plain_more_or xs

  pub plain_and : G.LogicalAnd → Bool
  plain_and (logical_and x xs) = plain_basic x && plain_more_and xs

  pub plain_more_and : G.MoreAnd → Bool
  plain_more_and no_and = true
  plain_more_and (more_and b c x xs) = plain_basic x && plain_more_and xs

  pub plain_basic : G.Basic → Bool
  plain_basic (paren_basic p) = plain_paren p
  plain_basic (not_paren b p) = plain_paren p
  plain_basic (comparison x b o c y) = plain_comparable x && plain_comparable y
  plain_basic (test_basic t) = plain_test t
  plain_basic (not_test b t) = plain_test t

  pub plain_paren : G.Paren → Bool
  plain_paren (paren b e c) = plain_or e

  pub plain_test : G.Test → Bool
  plain_test (query_test q) = plain_filter_query q
  plain_test (function_test f) = plain_function f

  pub plain_filter_query : G.FilterQuery → Bool
  plain_filter_query (rel_query xs) = plain_segments xs
  plain_filter_query (abs_query xs) = plain_segments xs

  pub plain_comparable : G.Comparable → Bool
  plain_comparable (literal_comparable l) = plain_literal l
  plain_comparable (singular_comparable q) = true
  plain_comparable (function_comparable f) = plain_function f

  pub plain_function : G.Function → Bool
  plain_function (function n b xs c) = plain_arguments xs

  pub plain_arguments : G.Arguments → Bool
  plain_arguments no_argument = true
  plain_arguments (arguments x xs) = plain_argument x && plain_more_arguments xs

  pub plain_more_arguments : G.MoreArguments → Bool
  plain_more_arguments no_more = true
  plain_more_arguments (more_arguments b c x xs) = plain_argument x && plain_more_arguments xs

  pub plain_argument : G.Argument → Bool
  plain_argument (literal_argument l) = plain_literal l
  plain_argument (query_argument q) = plain_filter_query q
  plain_argument (logical_argument e) = is_lone e && plain_or e
  plain_argument (function_argument f) = plain_function f

-- ---- walks that refuse and report nothing

-- whether a walk refuses or reports, and what it comes to, or x where it is refused
abbrev beyond_of : {A : Type 0} → Walked A → Bool
beyond_of (refused n) = true
beyond_of (walked b x) = b

abbrev found : {A : Type 0} → A → Walked A → A
found x (refused n) = x
found x (walked b y) = y

same : {A : Type 0} {x y : A} → fine x ≡ fine y → x ≡ y
same {x = x} e = ap (found x) e

also_fine : {A : Type 0} (b : Bool) (m : Walked A) {y : A} → also b m ≡ fine y → (b ≡ false) × (m ≡ fine y)
unfolding also
also_fine b (refused n) e = absurd (true≢false (ap beyond_of e))
also_fine true (walked f x) e = absurd (true≢false (ap beyond_of e))
also_fine false (walked f x) e = (refl, e)

-- both walks of a pair are so
next_fine : {A B : Type 0} (m : Walked A) (f : A → Walked B) {y : B} → next m f ≡ fine y → (x : A) × (m ≡ fine x) × (f x ≡ fine y)
unfolding next
next_fine (refused n) f e = absurd (true≢false (ap beyond_of e))
next_fine (walked b x) f e = let a = also_fine b (f x) e in (x, rw a.0 refl, a.1)

-- ---- literals and calls

numeral_plain : (n : Numeral) {l : F.Literal} → walk_numeral n ≡ fine l → not (is_beyond n) ≡ true
unfolding walk_numeral
numeral_plain (Numeral.integer z) e = refl
numeral_plain (Numeral.float b) e = refl
numeral_plain Numeral.beyond e = absurd (true≢false (ap beyond_of e))

literal_plain : (x : G.Literal) {l : F.Literal} → walk_literal x ≡ fine l → plain_literal x ≡ true
unfolding walk_literal
literal_plain (number_literal n) e = numeral_plain (numeral n) e
literal_plain (text_literal t) e = refl
literal_plain true_literal e = refl
literal_plain false_literal e = refl
literal_plain null_literal e = refl

-- an operand that some parameter takes: anything but what is logical
abbrev is_taken : Operand → Bool
is_taken (constant l) = true
is_taken (expression (nodes q)) = true
is_taken (expression (valued f)) = true
is_taken (expression (logical t)) = false

abbrev all_taken : List Operand → Bool
all_taken [] = true
all_taken (x ∷ xs) = is_taken x && all_taken xs

nodes_taken : (x : Operand) {q : F.Query} → as_nodes x ≡ fine q → is_taken x ≡ true
unfolding as_nodes
nodes_taken (constant l) e = refl
nodes_taken (expression (nodes q)) e = refl
nodes_taken (expression (valued f)) e = refl
nodes_taken (expression (logical t)) e = absurd (true≢false (ap beyond_of e))

value_taken : (x : Operand) {a : F.Argument} → as_value x ≡ fine a → is_taken x ≡ true
unfolding as_value
value_taken (constant l) e = refl
value_taken (expression (nodes q)) e = refl
value_taken (expression (valued f)) e = refl
value_taken (expression (logical t)) e = absurd (true≢false (ap beyond_of e))

only_taken : {A : Type 0} {y : A} (xs : List Operand) (f : Operand → Walked A) → ((x : Operand) → f x ≡ fine y → is_taken x ≡ true) → only xs f ≡ fine y → all_taken xs ≡ true
unfolding only
only_taken [] f h e = refl
only_taken (x ∷ []) f h e = both (h x e) refl
only_taken (x ∷ z ∷ xs) f h e = absurd (true≢false (ap beyond_of e))

regex_taken : (c : Scope) (xs : List Operand) {x : Expression} → as_regex c xs ≡ fine x → all_taken xs ≡ true
unfolding as_regex
regex_taken c [] e = refl
regex_taken c (x ∷ []) e = absurd (true≢false (ap beyond_of e))
regex_taken c (x ∷ y ∷ []) e =
    let a = next_fine (as_value x) _ e in
    let b = next_fine (as_value y) _ a.2 in
    both (value_taken x a.1) (both (value_taken y b.1) refl)
regex_taken c (x ∷ y ∷ z ∷ xs) e = absurd (true≢false (ap beyond_of e))

call_taken : (k : Named) (xs : List Operand) {x : Expression} → call k xs ≡ fine x → all_taken xs ≡ true
unfolding call
call_taken count xs e = only_taken xs as_nodes (λ x h. nodes_taken x h) (next_fine (only xs as_nodes) _ e).1
call_taken length xs e = only_taken xs as_value (λ x h. value_taken x h) (next_fine (only xs as_value) _ e).1
call_taken value_name xs e = only_taken xs as_nodes (λ x h. nodes_taken x h) (next_fine (only xs as_nodes) _ e).1
call_taken match xs e = regex_taken whole xs e
call_taken search xs e = regex_taken part xs e
call_taken unknown xs e = absurd (true≢false (ap beyond_of e))

-- the first of some operands, and the others
taken : (x : Operand) (xs : List Operand) → all_taken (x ∷ xs) ≡ true → (is_taken x ≡ true) × (all_taken xs ≡ true)
taken (constant l) xs h = (refl, h)
taken (expression (nodes q)) xs h = (refl, h)
taken (expression (valued f)) xs h = (refl, h)
taken (expression (logical t)) xs h = absurd (false≢true h)

-- ---- chains are logical

ands_logical : (u : G.MoreAnd) (a : Bool) (t : F.Test) {y : Expression} → walk_more_and u a (logical t) ≡ fine y → is_taken (expression y) ≡ false
unfolding walk_more_and
ands_logical no_and a t e = ap (λ (x : Expression). is_taken (expression x)) (sym (same e))
ands_logical (more_and b c x u) a t e =
    let f = next_fine (walk_basic x) _ e in
    let g = next_fine (compared a f.0) _ f.2 in
    ands_logical u a _ g.2

-- a first operand and a further one
ands_logical_more : (b c : Blanks) (x : G.Basic) (u : G.MoreAnd) (a : Bool) (d : Expression) {y : Expression} → walk_more_and (more_and b c x u) a d ≡ fine y → is_taken (expression y) ≡ false
unfolding walk_more_and
ands_logical_more b c x u a d e =
    let f = next_fine (walk_basic x) _ e in
    let g = next_fine (compared a f.0) _ f.2 in
    ands_logical u a _ g.2

ors_logical : (v : G.MoreOr) (a : Bool) (t : F.Test) {y : Expression} → walk_more_or v a (logical t) ≡ fine y → is_taken (expression y) ≡ false
unfolding walk_more_or
ors_logical no_or a t e = ap (λ (x : Expression). is_taken (expression x)) (sym (same e))
ors_logical (more_or b c x v) a t e = let f = next_fine (walk_and x a) _ e in ors_logical v a _ f.2

-- what is behind an operand that is logical
behind_logical : (v : G.MoreOr) (a : Bool) (x : Expression) {y : Expression} → is_taken (expression x) ≡ false → walk_more_or v a x ≡ fine y → is_taken (expression y) ≡ false
unfolding walk_more_or
behind_logical no_or a x h e = ap (λ (z : Expression). is_taken (expression z)) (sym (same e)) ∙ h
behind_logical (more_or b c z v) a x h e = let f = next_fine (walk_and z a) _ e in ors_logical v a _ f.2

-- a chain of `&&` is logical
and_chain_logical : (x : G.LogicalAnd) (a : Bool) {y : Expression} → is_chain x ≡ true → walk_and x a ≡ fine y → is_taken (expression y) ≡ false
unfolding walk_and walk_more_and
and_chain_logical (logical_and x no_and) a h e = absurd (false≢true h)
and_chain_logical (logical_and x (more_and b c z u)) a h e =
    let f = next_fine (walk_basic x) _ e in
    let g = next_fine (compared a f.0) _ f.2 in
    ands_logical_more b c z u a g.0 g.2

-- an expression that a parameter takes is no chain
taken_lone : (x : G.LogicalOr) (a : Bool) {y : Expression} → walk_or x a ≡ fine y → is_taken (expression y) ≡ true → is_lone x ≡ true
unfolding walk_or walk_more_or
taken_lone (logical_or (logical_and x no_and) no_or) a e h = refl
taken_lone (logical_or (logical_and x no_and) (more_or b c z v)) a e h =
    let f = next_fine (walk_and (logical_and x no_and) a) _ e in
    let g = next_fine (walk_and z a) _ f.2 in
    absurd (true≢false (sym h ∙ ors_logical v a _ g.2))
taken_lone (logical_or (logical_and x (more_and b c z u)) v) a e h =
    let f = next_fine (walk_and (logical_and x (more_and b c z u)) a) _ e in
    absurd (true≢false (sym h ∙ behind_logical v a f.0 (and_chain_logical (logical_and x (more_and b c z u)) a refl f.1) f.2))

-- ---- a value function is no test: outside an argument it stands in no chain and in no filter

abbrev pub is_valued : Expression → Bool
is_valued (nodes q) = false
is_valued (valued f) = true
is_valued (logical t) = false

logical_tests : (x : Expression) → is_taken (expression x) ≡ false → is_valued x ≡ false
logical_tests (nodes q) h = refl
logical_tests (valued f) h = absurd (true≢false h)
logical_tests (logical t) h = refl

compared_tests : (x : Expression) {y : Expression} → compared true x ≡ fine y → is_valued y ≡ false
unfolding compared
compared_tests (nodes q) e = ap is_valued (sym (same e))
compared_tests (valued f) e = absurd (true≢false (ap beyond_of e))
compared_tests (logical t) e = ap is_valued (sym (same e))

ands_tests : (u : G.MoreAnd) (x : Expression) {y : Expression} → is_valued x ≡ false → walk_more_and u true x ≡ fine y → is_valued y ≡ false
unfolding walk_more_and
ands_tests no_and x h e = ap is_valued (sym (same e)) ∙ h
ands_tests (more_and b c z u) x {y} h e = logical_tests y (ands_logical_more b c z u true x e)

ors_tests : (v : G.MoreOr) (x : Expression) {y : Expression} → is_valued x ≡ false → walk_more_or v true x ≡ fine y → is_valued y ≡ false
unfolding walk_more_or
ors_tests no_or x h e = ap is_valued (sym (same e)) ∙ h
ors_tests (more_or b c z v) x {y} h e = let f = next_fine (walk_and z true) _ e in logical_tests y (ors_logical v true _ f.2)

and_tests : (x : G.LogicalAnd) {y : Expression} → walk_and x true ≡ fine y → is_valued y ≡ false
unfolding walk_and
and_tests (logical_and x u) e =
    let f = next_fine (walk_basic x) _ e in
    let g = next_fine (compared true f.0) _ f.2 in
    ands_tests u g.0 (compared_tests f.0 g.1) g.2

-- what a filter or a parenthesis comes to is no value function
pub or_tests : (x : G.LogicalOr) {y : Expression} → walk_or x true ≡ fine y → is_valued y ≡ false
unfolding walk_or
or_tests (logical_or x v) e = let f = next_fine (walk_and x true) _ e in ors_tests v f.0 (and_tests x f.1) f.2

-- ---- the walk

mutual
  unfolding walk_segments walk_segment walk_bracketed walk_selectors walk_selector walk_or walk_more_or walk_and walk_more_and walk_basic walk_paren walk_test walk_filter_query walk_comparable walk_function walk_arguments walk_more_arguments walk_argument

  segments_plain : (x : G.Segments) {y : F.Segments} → walk_segments x ≡ fine y → plain_segments x ≡ true
  segments_plain no_segment e = refl
  segments_plain (more_segments b x xs) e =
      let f = next_fine (walk_segment x) _ e in
      let g = next_fine (walk_segments xs) _ f.2 in
      both (segment_plain x f.1) (segments_plain xs g.1)

  segment_plain : (x : G.Segment) {y : F.Segments → F.Segments} → walk_segment x ≡ fine y → plain_segment x ≡ true
  segment_plain (child_brackets x) e = bracketed_plain x (next_fine (walk_bracketed x) _ e).1
  segment_plain child_wild e = refl
  segment_plain (child_name n) e = refl
  segment_plain (descendant_brackets x) e = bracketed_plain x (next_fine (walk_bracketed x) _ e).1
  segment_plain descendant_wild e = refl
  segment_plain (descendant_name n) e = refl

  bracketed_plain : (x : G.Bracketed) {y : F.Selectors} → walk_bracketed x ≡ fine y → plain_bracketed x ≡ true
  bracketed_plain (bracketed b x xs c) e = let f = next_fine (walk_selector x) _ e in both (selector_plain x f.1) (selectors_plain xs f.0 f.2)

  selectors_plain : (x : G.Selectors) (s : F.Selector) {y : F.Selectors} → walk_selectors x s ≡ fine y → plain_selectors x ≡ true
  selectors_plain no_selector s e = refl
  selectors_plain (more_selectors b c x xs) s e =
      let f = next_fine (walk_selector x) _ e in
      let g = next_fine (walk_selectors xs f.0) _ f.2 in
      both (selector_plain x f.1) (selectors_plain xs f.0 g.1)

  selector_plain : (x : G.Selector) {y : F.Selector} → walk_selector x ≡ fine y → plain_selector x ≡ true
  selector_plain (name_selector t) e = refl
  selector_plain wildcard_selector e = refl
  selector_plain (slice_selector s) e = refl
  selector_plain (index_selector i) e = refl
  selector_plain (filter_selector b x) e = or_plain x true (next_fine (walk_or x true) _ e).1

  or_plain : (x : G.LogicalOr) (a : Bool) {y : Expression} → walk_or x a ≡ fine y → plain_or x ≡ true
  or_plain (logical_or x xs) a e = let f = next_fine (walk_and x a) _ e in both (and_plain x a f.1) (ors_plain xs a f.0 f.2)

  ors_plain : (x : G.MoreOr) (a : Bool) (d : Expression) {y : Expression} → walk_more_or x a d ≡ fine y → plain_more_or x ≡ true
  ors_plain no_or a d e = refl
  ors_plain (more_or b c x xs) a d e = let f = next_fine (walk_and x a) _ e in both (and_plain x a f.1) (ors_plain xs a _ f.2)

  and_plain : (x : G.LogicalAnd) (a : Bool) {y : Expression} → walk_and x a ≡ fine y → plain_and x ≡ true
  and_plain (logical_and x xs) a e =
      let f = next_fine (walk_basic x) _ e in
      let g = next_fine (compared a f.0) _ f.2 in
      both (basic_plain x f.1) (ands_plain xs a g.0 g.2)

  ands_plain : (x : G.MoreAnd) (a : Bool) (d : Expression) {y : Expression} → walk_more_and x a d ≡ fine y → plain_more_and x ≡ true
  ands_plain no_and a d e = refl
  ands_plain (more_and b c x xs) a d e =
      let f = next_fine (walk_basic x) _ e in
      let g = next_fine (compared a f.0) _ f.2 in
      both (basic_plain x f.1) (ands_plain xs a _ g.2)

  basic_plain : (x : G.Basic) {y : Expression} → walk_basic x ≡ fine y → plain_basic x ≡ true
  basic_plain (paren_basic p) e = paren_plain p e
  basic_plain (not_paren b p) e = paren_plain p (next_fine (walk_paren p) _ e).1
  basic_plain (comparison x b o c z) e =
      let f = next_fine (walk_comparable x) _ e in
      let g = next_fine (walk_comparable z) _ f.2 in
      both (comparable_plain x f.1) (comparable_plain z g.1)
  basic_plain (test_basic t) e = test_plain t e
  basic_plain (not_test b t) e = test_plain t (next_fine (walk_test t) _ e).1

  paren_plain : (x : G.Paren) {y : Expression} → walk_paren x ≡ fine y → plain_paren x ≡ true
  paren_plain (paren b x c) e = or_plain x true e

  test_plain : (x : G.Test) {y : Expression} → walk_test x ≡ fine y → plain_test x ≡ true
  test_plain (query_test q) e = query_plain q (next_fine (walk_filter_query q) _ e).1
  test_plain (function_test f) e = function_plain f e

  query_plain : (x : G.FilterQuery) {y : F.Query} → walk_filter_query x ≡ fine y → plain_filter_query x ≡ true
  query_plain (rel_query xs) e = segments_plain xs (next_fine (walk_segments xs) _ e).1
  query_plain (abs_query xs) e = segments_plain xs (next_fine (walk_segments xs) _ e).1

  comparable_plain : (x : G.Comparable) {y : Operand} → walk_comparable x ≡ fine y → plain_comparable x ≡ true
  comparable_plain (literal_comparable l) e = literal_plain l (next_fine (walk_literal l) _ e).1
  comparable_plain (singular_comparable q) e = refl
  comparable_plain (function_comparable f) e = function_plain f (next_fine (walk_function f) _ e).1

  function_plain : (x : G.Function) {y : Expression} → walk_function x ≡ fine y → plain_function x ≡ true
  function_plain (function n b xs c) e =
      let f = next_fine (walk_arguments xs) _ e in
      arguments_plain xs f.1 (call_taken (named (function_bytes n)) f.0 f.2)

  arguments_plain : (x : G.Arguments) {y : List Operand} → walk_arguments x ≡ fine y → all_taken y ≡ true → plain_arguments x ≡ true
  arguments_plain no_argument e h = refl
  arguments_plain (arguments x xs) e h =
      let f = next_fine (walk_argument x) _ e in
      let g = next_fine (walk_more_arguments xs) _ f.2 in
      let t = taken f.0 g.0 (subst (λ (l : List Operand). all_taken l ≡ true) (sym (same g.2)) h) in
      both (argument_plain x f.1 t.0) (furthers_plain xs g.1 t.1)

  furthers_plain : (x : G.MoreArguments) {y : List Operand} → walk_more_arguments x ≡ fine y → all_taken y ≡ true → plain_more_arguments x ≡ true
  furthers_plain no_more e h = refl
  furthers_plain (more_arguments b c x xs) e h =
      let f = next_fine (walk_argument x) _ e in
      let g = next_fine (walk_more_arguments xs) _ f.2 in
      let t = taken f.0 g.0 (subst (λ (l : List Operand). all_taken l ≡ true) (sym (same g.2)) h) in
      both (argument_plain x f.1 t.0) (furthers_plain xs g.1 t.1)

  argument_plain : (x : G.Argument) {y : Operand} → walk_argument x ≡ fine y → is_taken y ≡ true → plain_argument x ≡ true
  argument_plain (literal_argument l) e h = literal_plain l (next_fine (walk_literal l) _ e).1
  argument_plain (query_argument q) e h = query_plain q (next_fine (walk_filter_query q) _ e).1
  argument_plain (logical_argument x) e h =
      let f = next_fine (walk_or x false) _ e in
      both (taken_lone x false f.1 (subst (λ (o : Operand). is_taken o ≡ true) (sym (same f.2)) h)) (or_plain x false f.1)
  argument_plain (function_argument f) e h = function_plain f (next_fine (walk_function f) _ e).1

-- ---- queries

abbrev is_form : Reading → Bool
is_form (Reading.refused n) = false
is_form (form q) = true

judged_form : (m : Walked F.Query) {q : F.Query} → judge m ≡ form q → (x : F.Query) × (m ≡ fine x)
unfolding judge
judged_form (refused n) e = absurd (true≢false (sym (ap is_form e)))
judged_form (walked true x) e = absurd (true≢false (sym (ap is_form e)))
judged_form (walked false x) e = (x, refl)

-- Where the walk of a query comes to a form, nothing that stands in for a part was met.
pub no_stand_in : (t : G.Query) (q : F.Query) → judge (walk t) ≡ form q → plain_segments t.segments ≡ true
unfolding walk
no_stand_in t q e = let f = judged_form (walk t) e in segments_plain t.segments (next_fine (walk_segments t.segments) _ f.1).1
