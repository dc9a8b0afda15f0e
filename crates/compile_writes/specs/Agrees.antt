-- What is written for a tree agrees with the definition's walk over it, and the translation of its form is what is written: the refusals 4, 5, 6 and 8 and the bytes of a query.
use Rattle.std.specs.Prelude.{ℕ, suc, ◌<◌, ◌≡◌, refl, List, [], ◌∷◌, Bool, true, false, ◌&&◌}
use Rattle.std.proofs.Common.{arith, ap, sym, subst, true≢false}
use Rattle.std.proofs.Math.Path.{subst⁻¹}
use Rattle.std.proofs.lemmas.Bool.{false≢true}
use Rattle.definition.specs.Lexical.{function_bytes, name_bytes}
use Rattle.definition.specs.Literals.{text_bytes}
use Rattle.definition.specs.Grammar as G
use Rattle.definition.specs.Grammar.Segments.{no_segment, more_segments}
use Rattle.definition.specs.Grammar.Segment.{child_brackets, child_wild, child_name, descendant_brackets, descendant_wild, descendant_name}
use Rattle.definition.specs.Grammar.Bracketed.{bracketed}
use Rattle.definition.specs.Grammar.Selectors.{no_selector, more_selectors}
use Rattle.definition.specs.Grammar.Selector.{name_selector, wildcard_selector, slice_selector, index_selector, filter_selector}
use Rattle.definition.specs.Grammar.LogicalOr.{logical_or}
use Rattle.definition.specs.Grammar.MoreOr.{no_or, more_or}
use Rattle.definition.specs.Grammar.LogicalAnd.{logical_and}
use Rattle.definition.specs.Grammar.MoreAnd.{no_and, more_and}
use Rattle.definition.specs.Grammar.Basic.{paren_basic, not_paren, comparison, test_basic, not_test}
use Rattle.definition.specs.Grammar.Paren.{paren}
use Rattle.definition.specs.Grammar.Test.{query_test, function_test}
use Rattle.definition.specs.Grammar.FilterQuery.{rel_query, abs_query}
use Rattle.definition.specs.Grammar.Comparable.{literal_comparable, singular_comparable, function_comparable}
use Rattle.definition.specs.Grammar.Function.{function}
use Rattle.definition.specs.Grammar.Arguments.{no_argument, arguments}
use Rattle.definition.specs.Grammar.MoreArguments.{no_more, more_arguments}
use Rattle.definition.specs.Grammar.Argument.{literal_argument, query_argument, logical_argument, function_argument}
use Rattle.definition.specs.Forms as F
use Rattle.definition.specs.Forms.{is_singular, is_singular_selector}
use Rattle.definition.specs.Forms.Start.{root, current}
use Rattle.definition.specs.Forms.Query.{query}
use Rattle.definition.specs.Forms.Selectors.{one, and}
use Rattle.definition.specs.Forms.Selector.{name, wildcard}
use Rattle.definition.specs.Plans.{start_kind, pool_query, pool_selector, code_query, code_selector, plan_of, pool_of}
use Rattle.definition.specs.Walk.{Walked, Expression, fine, next, named, operator_form, walk_literal, walk_singular, walk_segments, walk_segment, walk_bracketed, walk_selectors, walk_selector, walk_or, walk_more_or, walk_and, walk_more_and, walk_basic, walk_paren, walk_test, walk_filter_query, walk_comparable, walk_function, walk_arguments, walk_more_arguments, walk_argument, walk}
use Rattle.definition.specs.Walk.Walked.{walked}
use Rattle.definition.specs.Walk.Expression.{nodes, logical}
use Rattle.definition.specs.Walk.Operand.{constant, expression}
use Rattle.definition.specs.Outcomes.{judge}
use Rattle.definition.specs.Outcomes.Reading.{refused, form}
use Rattle.compile_writes.specs.Effects.{Effect, Writer, skip, bytes, pooling, seq}
use Rattle.compile_writes.specs.Sorts.{Sort, is_plain_selector, is_alone, singular_brackets, singular_segment, singular_segments, query_sort, sort_function, sort_filter_query, sort_test, sort_more_and, sort_more_or, sort_or_lem, sort_and_lem, sort_basic, sort_paren, sort_comparable, sort_argument, sorts_more, sorts_of}
use Rattle.compile_writes.specs.Sorts.Sort.{literal_sort, singular_sort, logical_sort}
use Rattle.compile_writes.specs.Writes.{count_more, count_bracketed, write_literal, write_singular, write_from, write_segments, write_segment, write_bracketed, write_selectors, write_selector, write_or_lem, write_more_or, write_and_lem, write_more_and, write_basic, write_paren, write_test, write_filter_query, write_comparable, write_function, write_arguments, write_more_arguments, write_argument, write_query}
use Rattle.compile_writes.specs.Laws.{translated, seq_skip}
use Rattle.compile_writes.specs.Agreement.{Agrees, fits, knowing, then, after, mapped}
use Rattle.compile_writes.specs.Codes.{code_expression, pool_expression, sort_expression, code_operand, pool_operand, sort_operand, write_expression}
use Rattle.compile_writes.specs.Parts.{index_agrees, slice_agrees, literal_agrees, singular_agrees, from_agrees}
use Rattle.compile_writes.specs.Expressions.{Expresses, Operates, OperatesAll, filters, negates, disjoins, conjoins, opens, compares, calls_agree, more_operands, no_operands}
use Rattle.compile_writes.specs.Segments.{SelectorsAgree, SegmentAgrees, SegmentsAgree, one_selects, last_selects, more_select, child_agrees, descendant_agrees, child_fits, descendant_fits, no_segments, segments_agree_on, write_selector_form}

-- ---- from forms to expressions and operands

-- a query of the sort s
abbrev pub QueryAgrees : Sort → Writer → Walked F.Query → Type 0
QueryAgrees s f m = Agrees code_query pool_query (λ q. query_sort (is_singular q) ≡ s) f m

-- a query is an expression, and a query, an expression, a literal and a singular query are operands
query_expresses : {s : Sort} {f : Writer} {m : Walked F.Query} → QueryAgrees s f m → Expresses s f (next m (λ q. fine (nodes q)))
unfolding code_expression pool_expression sort_expression
query_expresses h = mapped nodes h (λ q hq. refl) (λ q hq. refl) (λ q hq. hq)

query_operates : {s : Sort} {f : Writer} {m : Walked F.Query} → QueryAgrees s f m → Operates s f (next m (λ q. fine (expression (nodes q))))
unfolding code_expression pool_expression sort_expression code_operand pool_operand sort_operand
query_operates h = mapped (λ q. expression (nodes q)) h (λ q hq. refl) (λ q hq. refl) (λ q hq. hq)

expression_operates : {s : Sort} {f : Writer} {m : Walked Expression} → Expresses s f m → Operates s f (next m (λ e. fine (expression e)))
unfolding code_operand pool_operand sort_operand
expression_operates h = mapped expression h (λ e he. refl) (λ e he. refl) (λ e he. he)

literal_operates : (l : G.Literal) → Operates literal_sort (write_literal l) (next (walk_literal l) (λ x. fine (constant x)))
unfolding code_operand pool_operand sort_operand
literal_operates l = mapped constant (literal_agrees l) (λ x hx. refl) (λ x hx. refl) (λ x hx. refl)

singular_operates : (q : G.Singular) → Operates singular_sort (write_singular q) (next (walk_singular q) (λ x. fine (expression (nodes x))))
unfolding query_sort
singular_operates q = query_operates (knowing (singular_agrees q) (λ x hx. ap query_sort hx))

-- ---- selectors and segments of the grammar

-- a name alone and a wildcard alone, as all of a segment's selectors
name_selects : (s : List ℕ) → SelectorsAgree 1 true (pooling 0x05 s) (fine (one (name s)))
unfolding pooling translated code_selector pool_selector is_singular_selector
name_selects s = one_selects (name s)

wild_selects : SelectorsAgree 1 false (bytes (0x08 ∷ [])) (fine (one wildcard))
unfolding bytes translated code_selector pool_selector is_singular_selector
wild_selects = one_selects wildcard

-- a selector of which it is known whether it is singular
abbrev pub SelectorAgrees : Bool → Writer → Walked F.Selector → Type 0
SelectorAgrees b f m = Agrees code_selector pool_selector (λ s. is_singular_selector s ≡ b) f m

name_selector_lem : (s : List ℕ) → SelectorAgrees true (pooling 0x05 s) (fine (name s))
unfolding pooling translated code_selector pool_selector is_singular_selector
name_selector_lem s = fits (name s) refl refl

wild_selector : SelectorAgrees false (bytes (0x08 ∷ [])) (fine wildcard)
unfolding bytes translated code_selector pool_selector is_singular_selector
wild_selector = fits wildcard refl refl

-- a query from its segments
from_segments : {b : Bool} {f : Writer} {m : Walked F.Segments} (s : F.Start) → SegmentsAgree b f m → QueryAgrees (query_sort b) (write_from (start_kind s) f) (next m (λ q. fine (query s q)))
unfolding is_singular
from_segments s h = from_agrees s _ h (λ q hq. ap query_sort hq)

-- the chain's first operand, of the sort that the tree has
from_sort : {s : Sort} (e : Expression) (t : Sort → Sort) (g : Sort → Writer) (m : Walked Expression) → sort_expression e ≡ s
    → Expresses (t (sort_expression e)) (seq (write_expression e) (g (sort_expression e))) m → Expresses (t s) (seq (write_expression e) (g s)) m
from_sort e t g m h a = subst (λ (r : Sort). Expresses (t r) (seq (write_expression e) (g r)) m) h a

-- an operand alone
alone_expresses : (e : Expression) → Expresses (sort_expression e) (seq (write_expression e) skip) (fine e)
alone_expresses e = fits e (seq_skip (write_expression e)) refl

-- behind something logical a chain stays logical
agrees_by_or : (xs : G.MoreOr) → sort_more_or xs logical_sort ≡ logical_sort
unfolding sort_more_or
agrees_by_or no_or = refl
agrees_by_or (more_or b c x xs) = refl

agrees_by_and : (xs : G.MoreAnd) → sort_more_and xs logical_sort ≡ logical_sort
unfolding sort_more_and
agrees_by_and no_and = refl
agrees_by_and (more_and b c x xs) = refl

-- so the chain goes on from the two operands that it has
stays_logical : (d : F.Test) (t : Sort → Sort) (g : Sort → Writer) (m : Walked Expression) → t logical_sort ≡ logical_sort
    → Expresses (t (sort_expression (logical d))) (seq (write_expression (logical d)) (g (sort_expression (logical d)))) m → Expresses logical_sort (seq (write_expression (logical d)) (g logical_sort)) m
unfolding sort_expression
stays_logical d t g m e h = subst (λ (s : Sort). Expresses s (seq (write_expression (logical d)) (g logical_sort)) m) e h

-- ---- every tree of the grammar

mutual
  unfolding walk_segments walk_segment walk_bracketed walk_selectors walk_selector walk_or walk_more_or walk_and walk_more_and walk_basic walk_paren walk_test walk_filter_query walk_comparable walk_function walk_arguments walk_more_arguments walk_argument write_segments write_segment write_bracketed write_selectors write_selector write_or_lem write_more_or write_and_lem write_more_and write_basic write_paren write_test write_filter_query write_comparable write_function write_arguments write_more_arguments write_argument singular_segments singular_segment singular_brackets is_plain_selector is_alone count_more count_bracketed sort_function sort_filter_query sort_test sort_more_and sort_more_or sort_or_lem sort_and_lem sort_basic sort_paren sort_comparable sort_argument sorts_more sorts_of start_kind

  pub agrees_segments : (xs : G.Segments) → SegmentsAgree (singular_segments xs) (write_segments xs) (walk_segments xs)
  agrees_segments no_segment = no_segments
  agrees_segments (more_segments b x xs) = segments_agree_on (agrees_segment x) (agrees_segments xs)

  pub agrees_segment : (x : G.Segment) → SegmentAgrees (singular_segment x) (write_segment x) (walk_segment x)
  agrees_segment (child_brackets x) = child_agrees (agrees_bracketed x)
  agrees_segment child_wild = child_fits (one wildcard) wild_selects
  agrees_segment (child_name n) = child_fits (one (name (name_bytes n))) (name_selects (name_bytes n))
  agrees_segment (descendant_brackets x) = descendant_agrees (agrees_bracketed x)
  agrees_segment descendant_wild = descendant_fits (one wildcard) wild_selects
  agrees_segment (descendant_name n) = descendant_fits (one (name (name_bytes n))) (name_selects (name_bytes n))

  pub agrees_bracketed : (x : G.Bracketed) → SelectorsAgree (count_bracketed x) (singular_brackets x) (write_bracketed x) (walk_bracketed x)
  agrees_bracketed (bracketed b x xs c) =
      then (write_selectors xs) (λ s. walk_selectors xs s) (agrees_selector x) (λ s hs.
      subst (λ (d : Bool). SelectorsAgree (suc (count_more xs)) (d && is_alone xs) (seq (write_selector_form s) (write_selectors xs)) (walk_selectors xs s)) hs (agrees_selectors xs s))

  pub agrees_selectors : (xs : G.Selectors) (s : F.Selector) → SelectorsAgree (suc (count_more xs)) (is_singular_selector s && is_alone xs) (seq (write_selector_form s) (write_selectors xs)) (walk_selectors xs s)
  agrees_selectors no_selector s = last_selects s
  agrees_selectors (more_selectors b c x xs) s =
      after (code_selector s) (pool_selector s) (write_selectors xs) (λ t. next (walk_selectors xs t) (λ ss. fine (and s ss))) (agrees_selector x) (λ t ht.
      more_select s (agrees_selectors xs t))

  pub agrees_selector : (x : G.Selector) → SelectorAgrees (is_plain_selector x) (write_selector x) (walk_selector x)
  agrees_selector (name_selector t) = name_selector_lem (text_bytes t)
  agrees_selector wildcard_selector = wild_selector
  agrees_selector (slice_selector s) = slice_agrees s
  agrees_selector (index_selector i) = index_agrees i
  agrees_selector (filter_selector b e) = filters (agrees_or e true)

  pub agrees_or : (e : G.LogicalOr) (a : Bool) → Expresses (sort_or_lem e) (write_or_lem e a) (walk_or e a)
  agrees_or (logical_or x xs) a =
      then (write_more_or xs (sort_and_lem x) a) (λ e. walk_more_or xs a e) (agrees_and x a) (λ e he.
      from_sort e (sort_more_or xs) (λ s. write_more_or xs s a) (walk_more_or xs a e) he (agrees_more_or xs a e))

  pub agrees_more_or : (xs : G.MoreOr) (a : Bool) (e : Expression) → Expresses (sort_more_or xs (sort_expression e)) (seq (write_expression e) (write_more_or xs (sort_expression e) a)) (walk_more_or xs a e)
  agrees_more_or no_or a e = alone_expresses e
  agrees_more_or (more_or b c x xs) a e =
      disjoins e (write_more_or xs logical_sort a) (λ d. walk_more_or xs a d) (agrees_and x a) (λ d.
      stays_logical d (sort_more_or xs) (λ s. write_more_or xs s a) (walk_more_or xs a (logical d)) (agrees_by_or xs) (agrees_more_or xs a (logical d)))

  pub agrees_and : (e : G.LogicalAnd) (a : Bool) → Expresses (sort_and_lem e) (write_and_lem e a) (walk_and e a)
  agrees_and (logical_and x xs) a =
      opens a (write_more_and xs (sort_basic x) a) (λ e. walk_more_and xs a e) (agrees_basic x) (λ e he.
      from_sort e (sort_more_and xs) (λ s. write_more_and xs s a) (walk_more_and xs a e) he (agrees_more_and xs a e))

  pub agrees_more_and : (xs : G.MoreAnd) (a : Bool) (e : Expression) → Expresses (sort_more_and xs (sort_expression e)) (seq (write_expression e) (write_more_and xs (sort_expression e) a)) (walk_more_and xs a e)
  agrees_more_and no_and a e = alone_expresses e
  agrees_more_and (more_and b c x xs) a e =
      conjoins a e (write_more_and xs logical_sort a) (λ d. walk_more_and xs a d) (agrees_basic x) (λ d.
      stays_logical d (sort_more_and xs) (λ s. write_more_and xs s a) (walk_more_and xs a (logical d)) (agrees_by_and xs) (agrees_more_and xs a (logical d)))

  pub agrees_basic : (e : G.Basic) → Expresses (sort_basic e) (write_basic e) (walk_basic e)
  agrees_basic (paren_basic p) = agrees_paren p
  agrees_basic (not_paren b p) = negates (agrees_paren p)
  agrees_basic (comparison x b o c y) = compares (operator_form o) (agrees_comparable x) (agrees_comparable y)
  agrees_basic (test_basic t) = agrees_test t
  agrees_basic (not_test b t) = negates (agrees_test t)

  pub agrees_paren : (e : G.Paren) → Expresses (sort_paren e) (write_paren e) (walk_paren e)
  agrees_paren (paren b e c) = agrees_or e true

  pub agrees_test : (t : G.Test) → Expresses (sort_test t) (write_test t) (walk_test t)
  agrees_test (query_test q) = query_expresses (agrees_filter_query q)
  agrees_test (function_test f) = agrees_function f

  pub agrees_filter_query : (q : G.FilterQuery) → QueryAgrees (sort_filter_query q) (write_filter_query q) (walk_filter_query q)
  agrees_filter_query (rel_query xs) = from_segments current (agrees_segments xs)
  agrees_filter_query (abs_query xs) = from_segments root (agrees_segments xs)

  pub agrees_comparable : (x : G.Comparable) → Operates (sort_comparable x) (write_comparable x) (walk_comparable x)
  agrees_comparable (literal_comparable l) = literal_operates l
  agrees_comparable (singular_comparable q) = singular_operates q
  agrees_comparable (function_comparable f) = expression_operates (agrees_function f)

  pub agrees_function : (f : G.Function) → Expresses (sort_function f) (write_function f) (walk_function f)
  agrees_function (function n b xs c) = calls_agree (named (function_bytes n)) (agrees_arguments xs)

  pub agrees_arguments : (xs : G.Arguments) → OperatesAll (sorts_of xs) (write_arguments xs) (walk_arguments xs)
  agrees_arguments no_argument = no_operands
  agrees_arguments (arguments x xs) = more_operands (agrees_argument x) (agrees_more_arguments xs)

  pub agrees_more_arguments : (xs : G.MoreArguments) → OperatesAll (sorts_more xs) (write_more_arguments xs) (walk_more_arguments xs)
  agrees_more_arguments no_more = no_operands
  agrees_more_arguments (more_arguments b c x xs) = more_operands (agrees_argument x) (agrees_more_arguments xs)

  pub agrees_argument : (x : G.Argument) → Operates (sort_argument x) (write_argument x) (walk_argument x)
  agrees_argument (literal_argument l) = literal_operates l
  agrees_argument (query_argument q) = query_operates (agrees_filter_query q)
  agrees_argument (logical_argument e) = expression_operates (agrees_or e false)
  agrees_argument (function_argument f) = expression_operates (agrees_function f)

-- ---- the whole query

-- A form, and that its translation is what was written.
pub record Formed (w : Walked F.Query) (e : Effect) : Type 0 where
  pub query : F.Query
  pub is : judge w ≡ form query
  pub plan : plan_of query ≡ e.plan
  pub pool : pool_of query ≡ e.pool

-- What a compiler concludes from what was written for a query: "the first of 4, 5, 6 in the Rust's walk", then 8, and otherwise a form.
pub record Agreed (w : Walked F.Query) (e : Effect) : Type 0 where
  pub refuses : 0 < e.marks.verdict → judge w ≡ refused e.marks.verdict
  pub beyond : e.marks.verdict ≡ 0 → e.marks.beyond ≡ true → judge w ≡ refused 8
  pub forms : e.marks.verdict ≡ 0 → e.marks.beyond ≡ false → Formed w e

-- what a refusal, and what a form with its report, tell
refused_agreed : {n : ℕ} (e : Effect) → 0 < n → e.marks.verdict ≡ n → Agreed (Walked.refused n) e
unfolding judge
refused_agreed {n} e h v =
    record {
      refuses = λ k. ap refused (sym v);
      beyond = λ z. absurd (never z);
      forms = λ z. absurd (never z);
    }
  where
    never : e.marks.verdict ≡ 0 → ⊥
    never z = omega (arith, z, v, h)

walked_agreed : (b : Bool) (q : F.Query) → Agreed (walked b q) (translated b (code_query q) (pool_query q) 0)
unfolding judge translated plan_of pool_of
walked_agreed true q =
    record {
      refuses = λ k. absurd (omega arith);
      beyond = λ z t. refl;
      forms = λ z t. absurd (true≢false t);
    }
walked_agreed false q =
    record {
      refuses = λ k. absurd (omega arith);
      beyond = λ z t. absurd (false≢true t);
      forms = λ z t. record { query = q; is = refl; plan = refl; pool = refl };
    }

agreed : {P : F.Query → Type 0} {f : Writer} {m : Walked F.Query} → Agrees code_query pool_query P f m → Agreed m (f 0)
agreed {f} (Agrees.refuses h v) = refused_agreed (f 0) h (v 0)
agreed (Agrees.writes {b = b} {x = q} e h) = subst⁻¹ (λ (w : Writer). Agreed (walked b q) (w 0)) e (walked_agreed b q)

-- What is written for a query's tree tells what the definition's walk over it comes to.
pub agrees : (t : G.Query) → Agreed (walk t) (write_query t 0)
unfolding walk write_query start_kind
agrees t = agreed (from_segments root (agrees_segments t.segments))
