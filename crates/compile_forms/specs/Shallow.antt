-- How deep the form of a part may nest where n brackets are open: a query at most 128 less 4 for each of them.
-- Between two brackets four things may add one each: a filter, a right operand of `||`, a right operand of `&&`, a `!`. So a test may have 1, 2 or 3 more.
use Rattle.std.specs.Prelude.{ℕ, suc, ◌+◌, ◌*◌, ◌≤◌, ◌≡◌, refl, List, [], ◌∷◌, Bool, true, false}
use Rattle.std.proofs.Common.{arith}
use Rattle.definition.specs.Limits.{max_brackets, max_nesting}
use Rattle.definition.specs.Lexical.{Slice}
use Rattle.definition.specs.Grammar as G
use Rattle.definition.specs.Grammar.SingularSegment.{name_segment, dot_segment, index_segment}
use Rattle.definition.specs.Grammar.SingularSegments.{no_singular, more_singular}
use Rattle.definition.specs.Grammar.Singular.{rel_singular, abs_singular}
use Rattle.regex_definition.specs.Scope.{Scope, whole, part}
use Rattle.definition.specs.Forms as F
use Rattle.definition.specs.Forms.{is_singular}
use Rattle.definition.specs.Forms.Selector.{filter}
use Rattle.definition.specs.Forms.Test.{exists, compare, regex, not, both, either}
use Rattle.definition.specs.Forms.Function.{count_of, length_of, value_of}
use Rattle.definition.specs.QueryForms.{nesting, nesting_segments, nesting_selectors, nesting_selector, nesting_test, nesting_argument, nesting_function}
use Rattle.definition.specs.Walk.{Walked, Expression, Operand, Named, as_test, negated, compared, as_nodes, as_value, only, as_regex, call, walk_int, walk_bound, walk_step, walk_slice, walk_singular_segment, walk_singular_segments, walk_singular}
use Rattle.definition.specs.Walk.Walked.{refused, walked}
use Rattle.definition.specs.Walk.Expression.{nodes, valued, logical}
use Rattle.definition.specs.Walk.Operand.{constant, expression}
use Rattle.definition.specs.Walk.Named.{count, value_name, match, search, unknown}
use Rattle.compile_forms.specs.Gives.{Gives, then, tested}
use Rattle.compile_forms.specs.Gives.Gives.{nothing, gives}

-- a test at the count n, with c more than a query
abbrev pub ShallowTest : ℕ → ℕ → F.Test → Type 0
ShallowTest c n t = nesting_test t + 4 * n ≤ max_nesting + c

-- a query, segments, selectors inside a bracket, an argument
abbrev pub ShallowQuery : ℕ → F.Query → Type 0
ShallowQuery n q = nesting q + 4 * n ≤ max_nesting

abbrev pub ShallowSegments : ℕ → F.Segments → Type 0
ShallowSegments n q = nesting_segments q + 4 * n ≤ max_nesting

abbrev pub ShallowSelectors : ℕ → F.Selectors → Type 0
ShallowSelectors n s = nesting_selectors s + 4 * n ≤ max_nesting + 4

abbrev pub ShallowSelector : ℕ → F.Selector → Type 0
ShallowSelector n s = nesting_selector s + 4 * n ≤ max_nesting + 4

abbrev pub ShallowArgument : ℕ → F.Argument → Type 0
ShallowArgument n a = nesting_argument a + 4 * n ≤ max_nesting

-- a function stands before a bracket of its own, so it has 3 less
abbrev pub Shallow : ℕ → ℕ → Expression → Type 0
Shallow c n (nodes q) = ShallowQuery n q
Shallow c n (valued f) = nesting_function f + 4 * n + 3 ≤ max_nesting
Shallow c n (logical t) = ShallowTest c n t

-- an operand, and all operands of a call
abbrev pub ShallowOperand : ℕ → Operand → Type 0
ShallowOperand n (constant l) = n ≤ max_brackets
ShallowOperand n (expression e) = Shallow 3 n e

abbrev pub ShallowAll : ℕ → List Operand → Type 0
ShallowAll n [] = Unit {0}
ShallowAll n (o ∷ os) = ShallowOperand n o × ShallowAll n os

-- ---- tests

-- a test with less has more
pub shallow_more : (c d n : ℕ) (e : Expression) → c ≤ d → Shallow c n e → Shallow d n e
shallow_more c d n (nodes q) l h = h
shallow_more c d n (valued f) l h = h
shallow_more c d n (logical t) l h = omega arith

-- an expression as a test
pub shallow_test : (c n : ℕ) (e : Expression) → Shallow c n e → ShallowTest c n (as_test e)
unfolding as_test nesting_test
shallow_test c n (nodes q) h = omega arith
shallow_test c n (valued f) h = omega arith
shallow_test c n (logical t) h = h

-- `!`
pub shallow_not : (n : ℕ) (e : Expression) → Shallow 0 n e → Gives (Shallow 1 n) (negated e)
unfolding negated nesting_test
shallow_not n (nodes q) h = gives {x = logical (not (exists q))} (omega arith)
shallow_not n (valued f) h = nothing
shallow_not n (logical t) h = gives {x = logical (not t)} (omega arith)

-- parentheses: the bracket pays for what stands inside
pub shallow_paren : (n : ℕ) (e : Expression) → Shallow 3 (suc n) e → Shallow 0 n e
shallow_paren n (nodes q) h = omega arith
shallow_paren n (valued f) h = omega arith
shallow_paren n (logical t) h = omega arith

-- `&&` and `||`
pub shallow_both : (n : ℕ) (e d : Expression) → Shallow 2 n e → Shallow 1 n d → Shallow 2 n (logical (both (as_test e) (as_test d)))
unfolding nesting_test
shallow_both n e d h k = omega (arith, shallow_test 2 n e h, shallow_test 1 n d k)

pub shallow_either : (n : ℕ) (e d : Expression) → Shallow 3 n e → Shallow 2 n d → Shallow 3 n (logical (either (as_test e) (as_test d)))
unfolding nesting_test
shallow_either n e d h k = omega (arith, shallow_test 3 n e h, shallow_test 2 n d k)

-- the judgement of a value function alone passes what it is given
pub shallow_compared : (c n : ℕ) (a : Bool) (e : Expression) → Shallow c n e → Gives (Shallow c n) (compared a e)
unfolding compared
shallow_compared c n true (nodes q) h = gives h
shallow_compared c n false (nodes q) h = gives h
shallow_compared c n true (valued f) h = nothing
shallow_compared c n false (valued f) h = gives h
shallow_compared c n true (logical t) h = gives h
shallow_compared c n false (logical t) h = gives h

-- a filter
pub shallow_filter : (n : ℕ) (e : Expression) → Shallow 3 n e → ShallowSelector n (filter (as_test e))
unfolding nesting_selector
shallow_filter n e h = omega (arith, shallow_test 3 n e h)

-- ---- operands

-- an operand as a value, and as nodes
pub shallow_value : (n : ℕ) (o : Operand) → ShallowOperand n o → Gives (ShallowArgument n) (as_value o)
unfolding as_value nesting_argument
shallow_value n (constant l) h = gives {x = F.Argument.literal l} (omega arith)
shallow_value n (expression (nodes q)) h = tested (is_singular q) (F.Argument.singular q) 5 (λ e. h)
shallow_value n (expression (valued f)) h = gives {x = F.Argument.value f} (omega arith)
shallow_value n (expression (logical t)) h = nothing

pub shallow_nodes : (n : ℕ) (o : Operand) → ShallowOperand n o → Gives (ShallowQuery n) (as_nodes o)
unfolding as_nodes
shallow_nodes n (constant l) h = nothing
shallow_nodes n (expression (nodes q)) h = gives h
shallow_nodes n (expression (valued f)) h = nothing
shallow_nodes n (expression (logical t)) h = nothing

-- a comparison
pub shallow_compare : (n : ℕ) (o : F.Operator) (a b : F.Argument) → ShallowArgument n a → ShallowArgument n b → ShallowTest 1 n (compare o a b)
unfolding nesting_test
shallow_compare n o a b h k = omega arith

-- ---- functions

-- the one argument of a function, and the two of match and search
shallow_only : {A : Type 0} {P : A → Type 0} (n : ℕ) (f : Operand → Walked A) → ((o : Operand) → ShallowOperand n o → Gives P (f o)) → (os : List Operand) → ShallowAll n os → Gives P (only os f)
unfolding only
shallow_only n f k [] h = nothing
shallow_only n f k (x ∷ []) h = k x h.0
shallow_only n f k (x ∷ y ∷ xs) h = nothing

shallow_regex : (n : ℕ) (s : Scope) (os : List Operand) → ShallowAll (suc n) os → Gives (Shallow 0 n) (as_regex s os)
unfolding as_regex nesting_test
shallow_regex n s [] h = nothing
shallow_regex n s (x ∷ []) h = nothing
shallow_regex n s (x ∷ y ∷ []) h = then (shallow_value (suc n) x h.0) (λ a ha. then (shallow_value (suc n) y h.1.0) (λ b hb. gives {x = logical (regex s a b)} (omega (arith, ha, hb))))
shallow_regex n s (x ∷ y ∷ z ∷ xs) h = nothing

-- a function and the bracket behind its name
pub shallow_call : (n : ℕ) (f : Named) (os : List Operand) → ShallowAll (suc n) os → Gives (Shallow 0 n) (call f os)
unfolding call nesting_function
shallow_call n count os h = then (shallow_only (suc n) as_nodes (shallow_nodes (suc n)) os h) (λ q hq. gives {x = valued (count_of q)} (omega arith))
shallow_call n Named.length os h = then (shallow_only (suc n) as_value (shallow_value (suc n)) os h) (λ a ha. gives {x = valued (length_of a)} (omega arith))
shallow_call n value_name os h = then (shallow_only (suc n) as_nodes (shallow_nodes (suc n)) os h) (λ q hq. gives {x = valued (value_of q)} (omega arith))
shallow_call n match os h = shallow_regex n whole os h
shallow_call n search os h = shallow_regex n part os h
shallow_call n unknown os h = nothing

-- ---- what nests nothing

-- of a walk of which nothing is asked
pub any : {A : Type 0} (m : Walked A) → Gives (λ x. Unit {0}) m
any (refused n) = nothing
any (walked b x) = gives tt

-- slices and singular queries have no filter
pub shallow_slice : (s : Slice) → Gives (λ x. nesting_selector x ≡ 0) (walk_slice s)
unfolding walk_slice nesting_selector
shallow_slice s = then (any (walk_bound s.start)) (λ a ha. then (any (walk_bound s.stop)) (λ b hb. then (any (walk_step s.by)) (λ c hc. gives refl)))

shallow_singular_segment : (x : G.SingularSegment) → Gives (λ s. nesting_selector s ≡ 0) (walk_singular_segment x)
unfolding walk_singular_segment nesting_selector
shallow_singular_segment (name_segment t) = gives refl
shallow_singular_segment (dot_segment t) = gives refl
shallow_singular_segment (index_segment i) = then (any (walk_int i)) (λ z hz. gives refl)

shallow_singular_segments : (xs : G.SingularSegments) → Gives (λ q. nesting_segments q ≡ 0) (walk_singular_segments xs)
unfolding walk_singular_segments nesting_segments nesting_selectors
shallow_singular_segments no_singular = gives refl
shallow_singular_segments (more_singular b x xs) = then (shallow_singular_segment x) (λ s hs. then (shallow_singular_segments xs) (λ q hq. gives (omega arith)))

pub shallow_singular : (q : G.Singular) → Gives (λ x. nesting x ≡ 0) (walk_singular q)
unfolding walk_singular nesting
shallow_singular (rel_singular xs) = then (shallow_singular_segments xs) (λ q hq. gives hq)
shallow_singular (abs_singular xs) = then (shallow_singular_segments xs) (λ q hq. gives hq)
