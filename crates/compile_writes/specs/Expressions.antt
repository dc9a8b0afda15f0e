-- The writer agrees with the walk where expressions are put together, if it does in their parts: tests and their negation, chains, comparisons, calls.
use Rattle.std.specs.Prelude.{ℕ, ◌+◌, ◌<◌, ◌≡◌, refl, List, [], ◌∷◌, ◌++◌, Bool, true, false, cond, length}
use Rattle.std.proofs.Common.{arith, ap, ap₂, sym, ◌∙◌, subst, subst₂}
use Rattle.std.proofs.Math.Path.{fun_ext, subst⁻¹}
use Rattle.regex_definition.specs.Scope.{Scope, whole, part}
use Rattle.definition.specs.Forms as F
use Rattle.definition.specs.Forms.{is_singular, is_singular_selector}
use Rattle.definition.specs.Forms.Selector.{filter}
use Rattle.definition.specs.Forms.Test.{exists, compare, regex, not, both, either}
use Rattle.definition.specs.Forms.Argument.{literal, singular, value}
use Rattle.definition.specs.Forms.Function.{count_of, length_of, value_of}
use Rattle.definition.specs.Plans.{framed, operator_byte, scope_kind, pool_query, pool_selector, pool_test, pool_argument, pool_function, code_query, code_selector, code_test, code_argument, code_function}
use Rattle.definition.specs.Walk.{Walked, fine, next, also, Expression, Operand, Named, as_test, negated, compared, as_nodes, as_value, only, as_regex, call}
use Rattle.definition.specs.Walk.Walked.{refused, walked}
use Rattle.definition.specs.Walk.Expression.{nodes, valued, logical}
use Rattle.definition.specs.Walk.Operand.{constant, expression}
use Rattle.definition.specs.Walk.Named.{count, value_name, match, search, unknown}
use Rattle.compile_writes.specs.Effects.{Writer, first, join_marks, join, skip, bytes, mark, verdict, seq, frame}
use Rattle.compile_writes.specs.Sorts.{Sort, query_sort, named_sort, value_verdict, nodes_verdict, compared_verdict, one_verdict, two_verdict, call_verdict}
use Rattle.compile_writes.specs.Sorts.Sort.{value_sort, logical_sort}
use Rattle.compile_writes.specs.Writes.{test_tail, not_tail, write_not, call_bytes}
use Rattle.compile_writes.specs.Laws.{translated, item, first_stands, seq_assoc, mark_passes, item_item, translated_bytes, verdict_verdict, seq_no_verdict, no_verdict_seq}
use Rattle.compile_writes.specs.Agreement.{Agrees, fits, then, after, mapped, frames, before, behind}
use Rattle.compile_writes.specs.Agreement.Agrees.{refuses}
use Rattle.compile_writes.specs.Codes.{code_expression, pool_expression, sort_expression, code_operand, pool_operand, sort_operand, code_operands, pool_operands, sorts_operands, write_expression, write_operand, write_operands, write_form, one_operand, two_operands, test_code, test_pool, test_item, not_query_code, not_test_code}

-- a writer that agrees with a walk to an expression of the sort s
abbrev pub Expresses : Sort → Writer → Walked Expression → Type 0
Expresses s f m = Agrees code_expression pool_expression (λ e. sort_expression e ≡ s) f m

abbrev pub Operates : Sort → Writer → Walked Operand → Type 0
Operates s f m = Agrees code_operand pool_operand (λ o. sort_operand o ≡ s) f m

abbrev pub OperatesAll : List Sort → Writer → Walked (List Operand) → Type 0
OperatesAll ss f m = Agrees code_operands pool_operands (λ os. sorts_operands os ≡ ss) f m

-- ---- tests and their negation

-- a filter of an expression: the test that it is, in its frame
pub filters : {s : Sort} {f : Writer} {m : Walked Expression} → Expresses s f m
    → Agrees code_selector pool_selector (λ x. is_singular_selector x ≡ false) (frame 0x09 (seq f (bytes (test_tail s)))) (next m (λ e. fine (filter (as_test e))))
unfolding code_selector pool_selector is_singular_selector
filters {s} h =
    mapped (λ e. filter (as_test e)) (frames 0x09 (behind (test_tail s) h))
    (λ e he. fun_ext (λ p. ap (framed 0x09) (ap (λ (t : Sort). code_expression e p ++ test_tail t) (sym he) ∙ test_code e p))) (λ e he. test_pool e) (λ e he. refl)

-- a query may stand alone
query_passes : (b : Bool) → compared_verdict true (query_sort b) ≡ 0
unfolding compared_verdict query_sort
query_passes true = refl
query_passes false = refl

-- what passes behind `!`: no verdict, and the tail
not_item : (e : Expression) (t : F.Test) → compared_verdict true (sort_expression e) ≡ 0 → ((p : ℕ) → code_expression e p ++ not_tail (sort_expression e) ≡ code_test t p) → pool_expression e ≡ pool_test t
    → seq (write_expression e) (write_not (sort_expression e)) ≡ write_form t
not_item e t v cs ps =
    ap (λ (n : ℕ). seq (write_expression e) (seq (verdict n) (bytes (not_tail (sort_expression e))))) v
    ∙ ap (seq (write_expression e)) (no_verdict_seq (bytes (not_tail (sort_expression e))))
    ∙ translated_bytes false (code_expression e) (pool_expression e) (not_tail (sort_expression e))
    ∙ ap₂ item (fun_ext cs) ps

-- `!` before a query and before a test is what is written, and before a value function it is 5
negation_agrees : (e : Expression) → Expresses logical_sort (seq (write_expression e) (write_not (sort_expression e))) (negated e)
unfolding negated code_expression pool_expression sort_expression compared_verdict pool_test seq join join_marks mark translated
negation_agrees (nodes q) = fits (logical (not (exists q))) (not_item (nodes q) (not (exists q)) (query_passes (is_singular q)) (not_query_code q) refl) refl
negation_agrees (valued f) = refuses {n = 5} (omega arith) (λ p. refl)
negation_agrees (logical t) = fits (logical (not t)) (not_item (logical t) (not t) refl (not_test_code t) refl) refl

-- `!` before an expression: what is wrong inside comes first
pub negates : {s : Sort} {f : Writer} {m : Walked Expression} → Expresses s f m → Expresses logical_sort (seq f (write_not s)) (next m (λ e. negated e))
negates {s} h = then (write_not s) (λ e. negated e) h (λ e he. subst (λ (r : Sort). Expresses logical_sort (seq (write_expression e) (write_not r)) (negated e)) he (negation_agrees e))

-- ---- chains

-- to report nothing besides changes nothing
pub also_nothing : {A : Type 0} (m : Walked A) → also false m ≡ m
unfolding also
also_nothing (refused n) = refl
also_nothing (walked b x) = refl

-- a judgement that passes x or refuses with the verdict v
data Judges {A : Type 0} (v : ℕ) (x : A) : Walked A → Type 0 where
  passes : v ≡ 0 → Judges v x (fine x)
  fails : {n : ℕ} → 0 < n → v ≡ n → Judges v x (refused n)

-- it stands behind an item, and the walk goes on with x
judged : {A B : Type 0} {code : B → ℕ → List ℕ} {pool : B → List ℕ} {P : B → Type 0} {v : ℕ} {x : A} {m : Walked A} (s : ℕ → List ℕ) (q : List ℕ) (g : Writer) (k : A → Walked B)
    → Judges v x m → Agrees code pool P (seq (item s q) g) (k x) → Agrees code pool P (seq (item s q) (seq (verdict v) g)) (next m k)
unfolding next seq join join_marks mark translated
judged {code} {pool} {P} {x} s q g k (passes e) h =
    subst⁻¹ (λ (n : ℕ). Agrees code pool P (seq (item s q) (seq (verdict n) g)) (also false (k x))) e
    (subst⁻¹ (λ (w : Writer). Agrees code pool P (seq (item s q) w) (also false (k x))) (no_verdict_seq g)
    (subst⁻¹ (λ (m : Walked _). Agrees code pool P (seq (item s q) g) m) (also_nothing (k x)) h))
judged s q g k (fails {n = n} h e) a = refuses h (λ p. ap (λ (c : ℕ). first c (g (p + length q + 0)).marks.verdict) e ∙ first_stands n (g (p + length q + 0)).marks.verdict h)

-- "A value function alone as a test or operand is 5, but not straight in an argument"
compared_judges : (a : Bool) (e : Expression) → Judges (compared_verdict a (sort_expression e)) e (compared a e)
unfolding compared_verdict sort_expression compared
compared_judges true (nodes q) = passes (query_passes (is_singular q))
compared_judges true (valued f) = fails {n = 5} (omega arith) refl
compared_judges true (logical t) = passes refl
compared_judges false (nodes q) = passes refl
compared_judges false (valued f) = passes refl
compared_judges false (logical t) = passes refl

-- an operand behind a test, in its frame
framed_operand : (d : Expression) (kind : ℕ) {s : Sort} → sort_expression d ≡ s
    → item (λ p. framed kind (code_expression d p ++ test_tail s)) (pool_expression d) ≡ item (λ p. framed kind (code_test (as_test d) p)) (pool_test (as_test d))
framed_operand d kind e =
    ap₂ item (fun_ext (λ p. ap (framed kind) (ap (λ (t : Sort). code_expression d p ++ test_tail t) (sym e) ∙ test_code d p))) (test_pool d)

-- a test with the tail of its sort before more
test_first : (e : Expression) (g : Writer) → seq (write_expression e) (seq (bytes (test_tail (sort_expression e))) g) ≡ seq (write_form (as_test e)) g
test_first e g = sym (seq_assoc (write_expression e) (bytes (test_tail (sort_expression e))) g) ∙ ap (λ (w : Writer). seq w g) (test_item e)

-- a test and another in its frame are one test
both_item : (t u : F.Test) → seq (write_form t) (item (λ p. framed 0x16 (code_test u p)) (pool_test u)) ≡ write_form (both t u)
unfolding code_test pool_test
both_item t u = item_item (code_test t) (λ p. framed 0x16 (code_test u p)) (pool_test t) (pool_test u)

either_item : (t u : F.Test) → seq (write_form t) (item (λ p. framed 0x17 (code_test u p)) (pool_test u)) ≡ write_form (either t u)
unfolding code_test pool_test
either_item t u = item_item (code_test t) (λ p. framed 0x17 (code_test u p)) (pool_test t) (pool_test u)

-- two tests, the second in its frame, before more
pair_first : (t : F.Test) (d : Expression) (kind : ℕ) {s : Sort} (b : F.Test) (g : Writer) → sort_expression d ≡ s
    → seq (write_form t) (item (λ p. framed kind (code_test (as_test d) p)) (pool_test (as_test d))) ≡ write_form b
    → seq (write_form t) (seq (item (λ p. framed kind (code_expression d p ++ test_tail s)) (pool_expression d)) g) ≡ seq (write_form b) g
pair_first t d kind b g e h =
    ap (λ (w : Writer). seq (write_form t) (seq w g)) (framed_operand d kind e)
    ∙ sym (seq_assoc (write_form t) (item (λ p. framed kind (code_test (as_test d) p)) (pool_test (as_test d))) g)
    ∙ ap (λ (w : Writer). seq w g) h

-- one more operand of `||` behind the expression e: the chain goes on from both
pub disjoins : {s t : Sort} {f : Writer} {m : Walked Expression} (e : Expression) (g : Writer) (k : Expression → Walked Expression)
    → Expresses s f m → ((d : F.Test) → Expresses t (seq (write_expression (logical d)) g) (k (logical d)))
    → Expresses t (seq (write_expression e) (seq (bytes (test_tail (sort_expression e))) (seq (frame 0x17 (seq f (bytes (test_tail s)))) g)))
    (next m (λ d. k (logical (either (as_test e) (as_test d)))))
unfolding code_expression pool_expression
disjoins {s} {t} {f} {m} e g k h go =
    subst⁻¹ (λ (w : Writer). Expresses t w (next m (λ d. k (logical (either (as_test e) (as_test d)))))) (test_first e (seq (frame 0x17 (seq f (bytes (test_tail s)))) g))
    (after (code_test (as_test e)) (pool_test (as_test e)) g (λ d. k (logical (either (as_test e) (as_test d)))) (frames 0x17 (behind (test_tail s) h)) (λ d hd.
    subst⁻¹ (λ (w : Writer). Expresses t w (k (logical (either (as_test e) (as_test d))))) (pair_first (as_test e) d 0x17 (either (as_test e) (as_test d)) g hd (either_item (as_test e) (as_test d)))
    (go (either (as_test e) (as_test d)))))

-- one more operand of `&&`: "a value function alone" is judged behind the operand
pub conjoins : {s t : Sort} {f : Writer} {m : Walked Expression} (a : Bool) (e : Expression) (g : Writer) (k : Expression → Walked Expression)
    → Expresses s f m → ((d : F.Test) → Expresses t (seq (write_expression (logical d)) g) (k (logical d)))
    → Expresses t (seq (write_expression e) (seq (bytes (test_tail (sort_expression e))) (seq (frame 0x16 (seq f (bytes (test_tail s)))) (seq (verdict (compared_verdict a s)) g))))
    (next m (λ d. next (compared a d) (λ u. k (logical (both (as_test e) (as_test u))))))
unfolding code_expression pool_expression
conjoins {s} {t} {f} {m} a e g k h go =
    subst⁻¹ (λ (w : Writer). Expresses t w (next m (λ d. next (compared a d) go_on))) (test_first e (seq (frame 0x16 (seq f (bytes (test_tail s)))) (seq (verdict (compared_verdict a s)) g)))
    (after (code_test (as_test e)) (pool_test (as_test e)) (seq (verdict (compared_verdict a s)) g) (λ d. next (compared a d) go_on) (frames 0x16 (behind (test_tail s) h)) (λ d hd.
    subst⁻¹ (λ (w : Writer). Expresses t w (next (compared a d) go_on)) (pair_first (as_test e) d 0x16 (both (as_test e) (as_test d)) (seq (verdict (compared_verdict a s)) g) hd (both_item (as_test e) (as_test d)))
    (subst (λ (r : Sort). Expresses t (seq (write_form (both (as_test e) (as_test d))) (seq (verdict (compared_verdict a r)) g)) (next (compared a d) go_on)) hd
    (judged (code_test (both (as_test e) (as_test d))) (pool_test (both (as_test e) (as_test d))) g go_on (compared_judges a d) (go (both (as_test e) (as_test d)))))))
  where
    go_on : Expression → Walked Expression
    go_on u = k (logical (both (as_test e) (as_test u)))

-- the first operand of `&&`
pub opens : {s t : Sort} {f : Writer} {m : Walked Expression} (a : Bool) (g : Writer) (k : Expression → Walked Expression)
    → Expresses s f m → ((e : Expression) → sort_expression e ≡ s → Expresses t (seq (write_expression e) g) (k e))
    → Expresses t (seq f (seq (verdict (compared_verdict a s)) g)) (next m (λ e. next (compared a e) k))
opens {s} {t} a g k h go =
    then (seq (verdict (compared_verdict a s)) g) (λ e. next (compared a e) k) h (λ e he.
    subst (λ (r : Sort). Expresses t (seq (write_expression e) (seq (verdict (compared_verdict a r)) g)) (next (compared a e) k)) he
    (judged (code_expression e) (pool_expression e) g k (compared_judges a e) (go e he)))

-- ---- operands as values and as nodes

abbrev Any : {A : Type 0} → A → Type 0
Any x = Unit {0}

-- "Value parameters take literals, singular queries and value functions"
query_value : (q : F.Query) (b : Bool) → Agrees code_argument pool_argument Any (seq (item (code_query q) (pool_query q)) (verdict (value_verdict (query_sort b)))) (cond b (fine (singular q)) (refused 5))
unfolding value_verdict query_sort code_argument pool_argument seq join join_marks mark translated
query_value q true = fits (singular q) (seq_no_verdict (item (code_query q) (pool_query q))) tt
query_value q false = refuses {n = 5} (omega arith) (λ p. refl)

value_agrees : (o : Operand) → Agrees code_argument pool_argument Any (seq (write_operand o) (verdict (value_verdict (sort_operand o)))) (as_value o)
unfolding value_verdict sort_operand sort_expression code_operand pool_operand code_expression pool_expression code_argument pool_argument as_value seq join join_marks mark translated
value_agrees (constant l) = fits (literal l) (seq_no_verdict (write_operand (constant l))) tt
value_agrees (expression (nodes q)) = query_value q (is_singular q)
value_agrees (expression (valued f)) = fits (value f) (seq_no_verdict (write_operand (expression (valued f)))) tt
value_agrees (expression (logical t)) = refuses {n = 5} (omega arith) (λ p. refl)

-- "nodes parameters take queries"
query_nodes : (q : F.Query) (b : Bool) → Agrees code_query pool_query Any (seq (item (code_query q) (pool_query q)) (verdict (nodes_verdict (query_sort b)))) (fine q)
unfolding nodes_verdict query_sort
query_nodes q true = fits q (seq_no_verdict (item (code_query q) (pool_query q))) tt
query_nodes q false = fits q (seq_no_verdict (item (code_query q) (pool_query q))) tt

nodes_agree : (o : Operand) → Agrees code_query pool_query Any (seq (write_operand o) (verdict (nodes_verdict (sort_operand o)))) (as_nodes o)
unfolding nodes_verdict sort_operand sort_expression code_operand pool_operand code_expression pool_expression as_nodes seq join join_marks mark translated
nodes_agree (constant l) = refuses {n = 5} (omega arith) (λ p. refl)
nodes_agree (expression (nodes q)) = query_nodes q (is_singular q)
nodes_agree (expression (valued f)) = refuses {n = 5} (omega arith) (λ p. refl)
nodes_agree (expression (logical t)) = refuses {n = 5} (omega arith) (λ p. refl)

-- ---- comparisons

-- verdicts on two items may be given behind both
verdicts_behind : (s t : ℕ → List ℕ) (q r : List ℕ) (a b : ℕ) (g : Writer)
    → seq (item s q) (seq (item t r) (seq (verdict (first a b)) g)) ≡ seq (seq (item s q) (verdict a)) (seq (seq (item t r) (verdict b)) g)
verdicts_behind s t q r a b g =
    ap (seq (item s q))
    (ap (seq (item t r)) (ap (λ (w : Writer). seq w g) (sym (verdict_verdict a b)) ∙ seq_assoc (verdict a) (verdict b) g)
    ∙ sym (mark_passes _ t r (seq (verdict b) g))
    ∙ ap (seq (verdict a)) (sym (seq_assoc (item t r) (verdict b) g)))
    ∙ sym (seq_assoc (item s q) (verdict a) (seq (seq (item t r) (verdict b)) g))

abbrev write_argument_form : F.Argument → Writer
write_argument_form a = item (code_argument a) (pool_argument a)

-- two operands, both taken as values before the walk goes on
two_values : {t : Sort} (x y : Operand) (g : Writer) (k : F.Argument → F.Argument → Walked Expression)
    → ((a b : F.Argument) → Expresses t (seq (write_argument_form a) (seq (write_argument_form b) g)) (k a b))
    → Expresses t (seq (write_operand x) (seq (write_operand y) (seq (verdict (first (value_verdict (sort_operand x)) (value_verdict (sort_operand y)))) g)))
    (next (as_value x) (λ a. next (as_value y) (λ b. k a b)))
two_values {t} x y g k go =
    subst⁻¹ (λ (w : Writer). Expresses t w (next (as_value x) (λ a. next (as_value y) (λ b. k a b))))
    (verdicts_behind (code_operand x) (code_operand y) (pool_operand x) (pool_operand y) (value_verdict (sort_operand x)) (value_verdict (sort_operand y)) g)
    (then (seq (seq (write_operand y) (verdict (value_verdict (sort_operand y)))) g) (λ a. next (as_value y) (λ b. k a b)) (value_agrees x) (λ a u.
    after (code_argument a) (pool_argument a) g (λ b. k a b) (value_agrees y) (λ b v. go a b)))

-- a comparison is its sides and its item
compare_item : (o : F.Operator) (a b : F.Argument) → seq (write_argument_form a) (seq (write_argument_form b) (bytes (0x14 ∷ operator_byte o ∷ []))) ≡ write_form (compare o a b)
unfolding code_test pool_test
compare_item o a b =
    ap (seq (write_argument_form a)) (translated_bytes false (code_argument b) (pool_argument b) (0x14 ∷ operator_byte o ∷ []))
    ∙ item_item (code_argument a) (λ p. code_argument b p ++ 0x14 ∷ operator_byte o ∷ []) (pool_argument a) (pool_argument b)

-- "both sides of a comparison before either is judged"
pub compares : {s t : Sort} {f g : Writer} {m n : Walked Operand} (o : F.Operator) → Operates s f m → Operates t g n
    → Expresses logical_sort (seq f (seq g (seq (verdict (first (value_verdict s) (value_verdict t))) (bytes (0x14 ∷ operator_byte o ∷ [])))))
    (next m (λ l. next n (λ r. next (as_value l) (λ a. next (as_value r) (λ b. fine (logical (compare o a b)))))))
unfolding code_expression pool_expression sort_expression
compares {s} {t} {g} {n} o h i =
    then (seq g (seq (verdict (first (value_verdict s) (value_verdict t))) end)) (λ l. next n (λ r. judge l r)) h (λ l hl.
    after (code_operand l) (pool_operand l) (seq (verdict (first (value_verdict s) (value_verdict t))) end) (λ r. judge l r) i (λ r hr.
    subst₂ (λ (u v : Sort). Expresses logical_sort (seq (write_operand l) (seq (write_operand r) (seq (verdict (first (value_verdict u) (value_verdict v))) end))) (judge l r)) hl hr
    (two_values l r end (λ a b. fine (logical (compare o a b))) (λ a b. fits (logical (compare o a b)) (compare_item o a b) refl))))
  where
    end : Writer
    end = bytes (0x14 ∷ operator_byte o ∷ [])

    judge : Operand → Operand → Walked Expression
    judge l r = next (as_value l) (λ a. next (as_value r) (λ b. fine (logical (compare o a b))))

-- ---- calls

-- the one argument of a function that has one
only_agrees : {A : Type 0} {code : A → ℕ → List ℕ} {pool : A → List ℕ} (v : Sort → ℕ) (k : Operand → Walked A)
    → ((o : Operand) → Agrees code pool Any (seq (write_operand o) (verdict (v (sort_operand o)))) (k o))
    → (os : List Operand) → Agrees code pool Any (seq (write_operands os) (verdict (one_verdict v (sorts_operands os)))) (only os k)
unfolding one_verdict sorts_operands only seq join join_marks mark translated
only_agrees v k h [] = refuses {n = 5} (omega arith) (λ p. refl)
only_agrees {code} {pool} v k h (o ∷ []) = subst⁻¹ (λ (w : Writer). Agrees code pool Any (seq w (verdict (v (sort_operand o)))) (k o)) (one_operand o) (h o)
only_agrees v k h (o ∷ x ∷ os) = refuses {n = 5} (omega arith) (λ p. refl)

-- a call of match or search is its arguments and its item
regex_item : (c : Scope) (a b : F.Argument) → seq (write_argument_form a) (seq (write_argument_form b) (bytes (scope_kind c ∷ []))) ≡ write_form (regex c a b)
unfolding code_test pool_test
regex_item c a b =
    ap (seq (write_argument_form a)) (translated_bytes false (code_argument b) (pool_argument b) (scope_kind c ∷ []))
    ∙ item_item (code_argument a) (λ p. code_argument b p ++ scope_kind c ∷ []) (pool_argument a) (pool_argument b)

-- two operands before more
two_first : (x y : Operand) (g : Writer) → seq (write_operands (x ∷ y ∷ [])) g ≡ seq (write_operand x) (seq (write_operand y) g)
two_first x y g = ap (λ (w : Writer). seq w g) (two_operands x y) ∙ seq_assoc (write_operand x) (write_operand y) g

-- match and search have two arguments, which are values
regex_agrees : (c : Scope) (os : List Operand)
    → Expresses logical_sort (seq (write_operands os) (seq (verdict (two_verdict (sorts_operands os))) (bytes (scope_kind c ∷ [])))) (as_regex c os)
unfolding two_verdict sorts_operands as_regex sort_expression code_expression pool_expression seq join join_marks mark bytes translated
regex_agrees c [] = refuses {n = 5} (omega arith) (λ p. refl)
regex_agrees c (x ∷ []) = refuses {n = 5} (omega arith) (λ p. refl)
regex_agrees c (x ∷ y ∷ []) =
    subst⁻¹ (λ (w : Writer). Expresses logical_sort w (next (as_value x) (λ a. next (as_value y) (λ b. fine (logical (regex c a b))))))
    (two_first x y (seq (verdict (first (value_verdict (sort_operand x)) (value_verdict (sort_operand y)))) (bytes (scope_kind c ∷ []))))
    (two_values x y (bytes (scope_kind c ∷ [])) (λ a b. fine (logical (regex c a b))) (λ a b. fits (logical (regex c a b)) (regex_item c a b) refl))
regex_agrees c (x ∷ y ∷ z ∷ os) = refuses {n = 5} (omega arith) (λ p. refl)

-- a call of a function with one argument: the argument, judged, and the function's item
one_call : {A : Type 0} {code : A → ℕ → List ℕ} {pool : A → List ℕ} (v : Sort → ℕ) (k : Operand → Walked A) (h : A → F.Function) (t : List ℕ)
    → ((o : Operand) → Agrees code pool Any (seq (write_operand o) (verdict (v (sort_operand o)))) (k o))
    → ((x : A) (p : ℕ) → code x p ++ t ≡ code_function (h x) p) → ((x : A) → pool x ≡ pool_function (h x))
    → (os : List Operand) → Expresses value_sort (seq (write_operands os) (seq (verdict (one_verdict v (sorts_operands os))) (bytes t))) (next (only os k) (λ x. fine (valued (h x))))
unfolding code_expression pool_expression sort_expression
one_call v k h t judge codes pools os =
    subst (λ (w : Writer). Expresses value_sort w (next (only os k) (λ x. fine (valued (h x))))) (seq_assoc (write_operands os) (verdict (one_verdict v (sorts_operands os))) (bytes t))
    (mapped (λ x. valued (h x)) (behind t (only_agrees v k judge os)) (λ x u. fun_ext (codes x)) (λ x u. pools x) (λ x u. refl))

-- "arguments before the name lookup, then the argument count, then argument types"
pub call_agrees : (n : Named) (os : List Operand)
    → Expresses (named_sort n) (seq (write_operands os) (seq (verdict (call_verdict n (sorts_operands os))) (bytes (call_bytes n)))) (call n os)
unfolding named_sort call_verdict call_bytes call scope_kind code_function pool_function seq join join_marks mark bytes translated
call_agrees count os = one_call nodes_verdict as_nodes count_of (0x19 ∷ []) nodes_agree (λ x p. refl) (λ x. refl) os
call_agrees Named.length os = one_call value_verdict as_value length_of (0x1A ∷ []) value_agrees (λ x p. refl) (λ x. refl) os
call_agrees value_name os = one_call nodes_verdict as_nodes value_of (0x1B ∷ []) nodes_agree (λ x p. refl) (λ x. refl) os
call_agrees match os = regex_agrees whole os
call_agrees search os = regex_agrees part os
call_agrees unknown os = refuses {n = 6} (omega arith) (λ p. refl)

-- a call from its arguments
pub calls_agree : {ss : List Sort} {f : Writer} {m : Walked (List Operand)} (n : Named) → OperatesAll ss f m
    → Expresses (named_sort n) (seq f (seq (verdict (call_verdict n ss)) (bytes (call_bytes n)))) (next m (λ os. call n os))
calls_agree {ss} n h =
    then (seq (verdict (call_verdict n ss)) (bytes (call_bytes n))) (λ os. call n os) h (λ os hs.
    subst (λ (ts : List Sort). Expresses (named_sort n) (seq (write_operands os) (seq (verdict (call_verdict n ts)) (bytes (call_bytes n)))) (call n os)) hs
    (call_agrees n os))

-- an argument before others
pub more_operands : {s : Sort} {ss : List Sort} {f g : Writer} {m : Walked Operand} {n : Walked (List Operand)} → Operates s f m → OperatesAll ss g n
    → OperatesAll (s ∷ ss) (seq f g) (next m (λ o. next n (λ os. fine (o ∷ os))))
unfolding code_operands pool_operands sorts_operands
more_operands {g} {n} h i =
    then g (λ o. next n (λ os. fine (o ∷ os))) h (λ o ho.
    mapped (λ os. o ∷ os) (before (code_operand o) (pool_operand o) i) (λ os hs. refl) (λ os hs. refl) (λ os hs. ap₂ ◌∷◌ ho hs))

-- no argument
pub no_operands : OperatesAll [] skip (fine [])
unfolding code_operands pool_operands sorts_operands skip translated
no_operands = fits [] refl refl
