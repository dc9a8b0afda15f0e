-- The translation of what the walk comes to on the way: expressions and operands with their sorts, and segments without the item that ends them.
use Rattle.std.specs.Prelude.{ℕ, ◌+◌, ◌≡◌, refl, List, [], ◌∷◌, ◌++◌, Bool, true, false, length}
use Rattle.std.proofs.Common.{ap, ap₂, sym, ◌∙◌, append-nil, append_assoc}
use Rattle.std.proofs.Math.Path.{fun_ext}
use Rattle.definition.specs.Forms as F
use Rattle.definition.specs.Forms.{is_singular, many_selectors}
use Rattle.definition.specs.Forms.Segments.{end, child, descendant}
use Rattle.definition.specs.Forms.Test.{exists, not}
use Rattle.definition.specs.Plans.{two, pool_literal, pool_query, pool_selectors, pool_test, pool_function, code_literal, code_query, code_segments, code_selectors, code_test, code_function}
use Rattle.definition.specs.Walk.{Expression, Operand, as_test}
use Rattle.definition.specs.Walk.Expression.{nodes, valued, logical}
use Rattle.definition.specs.Walk.Operand.{constant, expression}
use Rattle.compile_writes.specs.Effects.{Writer, bytes, seq}
use Rattle.compile_writes.specs.Sorts.{Sort, query_sort}
use Rattle.compile_writes.specs.Sorts.Sort.{literal_sort, value_sort, logical_sort}
use Rattle.compile_writes.specs.Writes.{test_tail, not_tail}
use Rattle.compile_writes.specs.Laws.{item, translated_bytes, item_item}

-- ---- expressions and operands

unfoldable pub code_expression : Expression → ℕ → List ℕ
code_expression (nodes q) = code_query q
code_expression (valued f) = code_function f
code_expression (logical t) = code_test t

unfoldable pub pool_expression : Expression → List ℕ
pool_expression (nodes q) = pool_query q
pool_expression (valued f) = pool_function f
pool_expression (logical t) = pool_test t

unfoldable pub sort_expression : Expression → Sort
sort_expression (nodes q) = query_sort (is_singular q)
sort_expression (valued f) = value_sort
sort_expression (logical t) = logical_sort

unfoldable pub code_operand : Operand → ℕ → List ℕ
code_operand (constant l) = code_literal l
code_operand (expression e) = code_expression e

unfoldable pub pool_operand : Operand → List ℕ
pool_operand (constant l) = pool_literal l
pool_operand (expression e) = pool_expression e

unfoldable pub sort_operand : Operand → Sort
sort_operand (constant l) = literal_sort
sort_operand (expression e) = sort_expression e

-- arguments, one after the other
unfoldable pub code_operands : List Operand → ℕ → List ℕ
code_operands [] p = []
code_operands (o ∷ os) p = code_operand o p ++ code_operands os (p + length (pool_operand o))

unfoldable pub pool_operands : List Operand → List ℕ
pool_operands [] = []
pool_operands (o ∷ os) = pool_operand o ++ pool_operands os

unfoldable pub sorts_operands : List Operand → List Sort
sorts_operands [] = []
sorts_operands (o ∷ os) = sort_operand o ∷ sorts_operands os

-- what is written for them
abbrev pub write_expression : Expression → Writer
write_expression e = item (code_expression e) (pool_expression e)

abbrev pub write_operand : Operand → Writer
write_operand o = item (code_operand o) (pool_operand o)

abbrev pub write_operands : List Operand → Writer
write_operands os = item (code_operands os) (pool_operands os)

abbrev pub write_form : F.Test → Writer
write_form t = item (code_test t) (pool_test t)

-- one argument alone
pub one_operand : (o : Operand) → write_operands (o ∷ []) ≡ write_operand o
unfolding code_operands pool_operands
one_operand o = ap₂ item (fun_ext (λ p. append-nil (code_operand o p))) (append-nil (pool_operand o))

-- two arguments
pub two_operands : (x y : Operand) → write_operands (x ∷ y ∷ []) ≡ seq (write_operand x) (write_operand y)
unfolding code_operands pool_operands
two_operands x y =
    ap₂ item (fun_ext (λ p. ap (λ (s : List ℕ). code_operand x p ++ s) (append-nil (code_operand y (p + length (pool_operand x)))))) (ap (λ (s : List ℕ). pool_operand x ++ s) (append-nil (pool_operand y)))
    ∙ sym (item_item (code_operand x) (code_operand y) (pool_operand x) (pool_operand y))

-- ---- tests

-- a query's tails do not depend on whether it is singular
query_test_tail : (b : Bool) → test_tail (query_sort b) ≡ 0x18 ∷ []
unfolding test_tail query_sort
query_test_tail true = refl
query_test_tail false = refl

query_not_tail : (b : Bool) → not_tail (query_sort b) ≡ 0x18 ∷ 0x15 ∷ []
unfolding not_tail query_sort
query_not_tail true = refl
query_not_tail false = refl

-- an expression as a test is the expression with its tail
pub test_code : (e : Expression) (p : ℕ) → code_expression e p ++ test_tail (sort_expression e) ≡ code_test (as_test e) p
unfolding code_expression sort_expression as_test code_test test_tail
test_code (nodes q) p = ap (λ (s : List ℕ). code_query q p ++ s) (query_test_tail (is_singular q))
test_code (valued f) p = sym (append_assoc (code_function f p) (0x18 ∷ 0x15 ∷ []) (0x15 ∷ []))
test_code (logical t) p = append-nil (code_test t p)

pub test_pool : (e : Expression) → pool_expression e ≡ pool_test (as_test e)
unfolding pool_expression as_test pool_test
test_pool (nodes q) = refl
test_pool (valued f) = refl
test_pool (logical t) = refl

pub test_item : (e : Expression) → seq (write_expression e) (bytes (test_tail (sort_expression e))) ≡ write_form (as_test e)
test_item e = translated_bytes false (code_expression e) (pool_expression e) (test_tail (sort_expression e)) ∙ ap₂ item (fun_ext (test_code e)) (test_pool e)

-- and behind `!` a query and a test are what they are with the other tail
pub not_query_code : (q : F.Query) (p : ℕ) → code_query q p ++ not_tail (query_sort (is_singular q)) ≡ code_test (not (exists q)) p
unfolding code_test
not_query_code q p = ap (λ (s : List ℕ). code_query q p ++ s) (query_not_tail (is_singular q)) ∙ sym (append_assoc (code_query q p) (0x18 ∷ []) (0x15 ∷ []))

pub not_test_code : (t : F.Test) (p : ℕ) → code_test t p ++ not_tail logical_sort ≡ code_test (not t) p
unfolding code_test not_tail
not_test_code t p = refl

-- ---- segments

-- the code of segments without the item that ends them
unfoldable pub body_segments : F.Segments → ℕ → List ℕ
body_segments end p = []
body_segments (child ss q) p = 0x03 ∷ (two (many_selectors ss) ++ (code_selectors ss p ++ body_segments q (p + length (pool_selectors ss))))
body_segments (descendant ss q) p = 0x04 ∷ (two (many_selectors ss) ++ (code_selectors ss p ++ body_segments q (p + length (pool_selectors ss))))

-- what ends the segments behind one ends it too
ends_behind : (kind n : ℕ) (s q : List ℕ) {r : List ℕ} → q ++ 0x0A ∷ [] ≡ r → (kind ∷ (two n ++ (s ++ q))) ++ 0x0A ∷ [] ≡ kind ∷ (two n ++ (s ++ r))
ends_behind kind n s q e =
    ap (λ (l : List ℕ). kind ∷ l)
    (append_assoc (two n) (s ++ q) (0x0A ∷ []) ∙ ap (λ (l : List ℕ). two n ++ l) (append_assoc s q (0x0A ∷ []) ∙ ap (λ (l : List ℕ). s ++ l) e))

-- the body and the item that ends it are the code
pub body_ends : (q : F.Segments) (p : ℕ) → body_segments q p ++ 0x0A ∷ [] ≡ code_segments q p
unfolding body_segments code_segments
body_ends end p = refl
body_ends (child ss q) p = ends_behind 0x03 (many_selectors ss) (code_selectors ss p) (body_segments q (p + length (pool_selectors ss))) (body_ends q (p + length (pool_selectors ss)))
body_ends (descendant ss q) p = ends_behind 0x04 (many_selectors ss) (code_selectors ss p) (body_segments q (p + length (pool_selectors ss))) (body_ends q (p + length (pool_selectors ss)))
