-- The numbers that stand for sorts, functions and lists of sorts in the code: each is one of a few, and what is told of it goes by these cases.
-- Assumes nothing.
use mathlib.Core.Path.{◌≡◌, refl, sym, ◌∙◌}
use mathlib.Core.Logic.{◌≢◌, ◌⊎◌, inl, inr}
use mathlib.Core.Bool.{Bool, true, false, cond, not}
use mathlib.Core.List.{List, [], ◌∷◌}
use Prim.Native.Nat.{ℕ, ◌+◌, ◌-◌, ◌/◌, ◌%◌, ◌≤◌, ◌<◌}
use native.Mathlib.Omega.{arith}
use borrow.Author.Tests.{eqb-true, eqb-false, ne_eqb, leb-true, leb-false, le-leb, lt-leb}
use lib.Dec.{eqb, leb}
use Rattle.utf8_laws.specs.Bytes.{by_test}
use Rattle.std.specs.Prelude.{Option, Some, None}
use Rattle.parser_scan.specs.declared.Function.{Function}
use Rattle.parser_scan.specs.declared.Function.TheVariants.{Count, Length, Value, Match, Search}
use Rattle.parser_scan.specs.Text.{number_of_function}
use Rattle.compile_writes.specs.Effects.{Marks, join_marks, first}
use Rattle.compile_writes.specs.Sorts.{Sort, value_verdict, nodes_verdict, one_verdict, two_verdict, call_verdict}
use Rattle.compile_writes.specs.Sorts.Sort.{literal_sort, singular_sort, nodes_sort, value_sort, logical_sort}
use Rattle.compile_writes.specs.Writes.{call_bytes}
use Rattle.parser_items.specs.Reads.{sort_of, name_of, sorts_from, call_marks, Put, PutMarked}
use Rattle.parser_items.specs.Laws.{Marked, marked_put, marked_then, put_none}
use Rattle.parser_items.specs.declared.Cursor.{Cursor}

-- ---- sorts

-- what holds in each of the cases of a sort's number holds of the sort
pub sort_by : {A : Type 0} (f : Sort → A) (x : A) (n : ℕ) → (n ≡ 0 → x ≡ f literal_sort) → (n ≡ 1 → x ≡ f singular_sort) → (n ≡ 2 → x ≡ f nodes_sort) → (n ≡ 3 → x ≡ f value_sort) → (n ≡ 4 → x ≡ f logical_sort)
    → (4 < n → x ≡ f singular_sort) → x ≡ f (sort_of n)
sort_by f x n a b c d e g =
    by_test (eqb n 0) (λ t. rw t (a (eqb-true n 0 t))) (λ p.
    by_test (eqb n 1) (λ t. rw (p, t) (b (eqb-true n 1 t))) (λ q.
    by_test (eqb n 2) (λ t. rw (p, q, t) (c (eqb-true n 2 t))) (λ r.
    by_test (eqb n 3) (λ t. rw (p, q, r, t) (d (eqb-true n 3 t))) (λ s.
    by_test (eqb n 4) (λ t. rw (p, q, r, s, t) (e (eqb-true n 4 t))) (λ u.
    rw (p, q, r, s, u) (g (omega (arith, eqb-false n 0 p, eqb-false n 1 q, eqb-false n 2 r, eqb-false n 3 s, eqb-false n 4 u))))))))

-- ---- functions

-- what holds of the functions of an arm holds of the one that is called
pub by_two : {n : Option Function} {f g h : Function} (P : Option Function → Type 0) → n ≡ Some f → (f ≡ g) ⊎ (f ≡ h) → P (Some g) → P (Some h) → P n
by_two P e (inl q) x y = rw (e, q) x
by_two P e (inr q) x y = rw (e, q) y

pub by_three : {n : Option Function} {f g h k : Function} (P : Option Function → Type 0) → n ≡ Some f → (f ≡ g) ⊎ ((f ≡ h) ⊎ (f ≡ k)) → P (Some g) → P (Some h) → P (Some k) → P n
by_three P e (inl q) x y z = rw (e, q) x
by_three P e (inr q) x y z = by_two P e q y z

-- ---- the sorts of a function's arguments

pub sorts_one : (n : ℕ) → n ≢ 0 → n ≤ 5 → sorts_from n ≡ sort_of (n - 1) ∷ []
sorts_one n l h = rw (ne_eqb n 0 l, le-leb n 5 h)

pub sorts_two : (n : ℕ) → 6 ≤ n → n ≤ 30 → sorts_from n ≡ sort_of ((n - 6) / 5) ∷ sort_of ((n - 6) % 5) ∷ []
sorts_two n l h = rw (ne_eqb n 0 (λ e. omega arith), lt-leb n 5 l, le-leb n 30 h)

pub sorts_three : (n : ℕ) → 30 < n → sorts_from n ≡ literal_sort ∷ literal_sort ∷ literal_sort ∷ []
sorts_three n l = rw (ne_eqb n 0 (λ e. omega arith), lt-leb n 5 (omega arith), lt-leb n 30 l)

-- what is asked of the argument of a function that has one
abbrev argument_verdict : Function → Sort → ℕ
argument_verdict Count = nodes_verdict
argument_verdict Length = value_verdict
argument_verdict Value = nodes_verdict
argument_verdict Match = nodes_verdict
argument_verdict Search = nodes_verdict

one_of : (f : Function) (ss : List Sort) → number_of_function (Some f) ≤ 3 → one_verdict (argument_verdict f) ss ≡ call_verdict (name_of (number_of_function (Some f))) ss
unfolding call_verdict
one_of Count ss h = refl
one_of Length ss h = refl
one_of Value ss h = refl
one_of Match ss h = absurd (omega (arith, h))
one_of Search ss h = absurd (omega (arith, h))

module _ (sorts : ℕ) where
  -- a function with one argument that has none
  pub one_none : (f : Function) → number_of_function (Some f) ≤ 3 → sorts ≡ 0 → 5 ≡ call_verdict (name_of (number_of_function (Some f))) (sorts_from sorts)
  unfolding one_verdict
  one_none f h e = rw e (one_of f [] h)

  -- a function with one argument that has more
  pub one_more : (f : Function) → number_of_function (Some f) ≤ 3 → 5 < sorts → 5 ≡ call_verdict (name_of (number_of_function (Some f))) (sorts_from sorts)
  unfolding one_verdict
  one_more f h k =
      by_test (leb sorts 30)
      (λ t. rw (sorts_two sorts k (leb-true sorts 30 t)) (one_of f (sort_of ((sorts - 6) / 5) ∷ sort_of ((sorts - 6) % 5) ∷ []) h))
      (λ g. rw (sorts_three sorts (leb-false sorts 30 g)) (one_of f (literal_sort ∷ literal_sort ∷ literal_sort ∷ []) h))

  -- length with its argument
  pub one_value : {v : ℕ} {f : Function} → f ≡ Length → sorts ≢ 0 → sorts ≤ 5 → v ≡ value_verdict (sort_of (sorts - 1)) → v ≡ call_verdict (name_of (number_of_function (Some f))) (sorts_from sorts)
  unfolding call_verdict one_verdict
  one_value e l h q = rw (e, sorts_one sorts l h) q

  -- count and value with their argument
  pub one_nodes : {v : ℕ} (f : Function) → number_of_function (Some f) ≤ 3 → f ≢ Length → sorts ≢ 0 → sorts ≤ 5 → v ≡ nodes_verdict (sort_of (sorts - 1)) → v ≡ call_verdict (name_of (number_of_function (Some f))) (sorts_from sorts)
  unfolding call_verdict one_verdict
  one_nodes Count b e l h q = rw (sorts_one sorts l h) q
  one_nodes Length b e l h q = absurd (e refl)
  one_nodes Value b e l h q = rw (sorts_one sorts l h) q
  one_nodes Match b e l h q = absurd (omega (arith, b))
  one_nodes Search b e l h q = absurd (omega (arith, b))

  -- match or search with fewer than two arguments
  pub two_few : sorts < 6 → 5 ≡ two_verdict (sorts_from sorts)
  unfolding two_verdict
  two_few k = by_test (eqb sorts 0) (λ t. let e : sorts ≡ 0 = eqb-true sorts 0 t in rw e) (λ f. rw (sorts_one sorts (eqb-false sorts 0 f) (omega arith)))

  -- match or search with more than two arguments
  pub two_many : 30 < sorts → 5 ≡ two_verdict (sorts_from sorts)
  unfolding two_verdict
  two_many k = rw (sorts_three sorts k)

  -- match or search with two arguments: the first that is no value decides
  pub two_right : {v w : ℕ} → 6 ≤ sorts → sorts ≤ 30 → v ≡ value_verdict (sort_of ((sorts - 6) / 5)) → v ≡ 0 → w ≡ value_verdict (sort_of ((sorts - 6) % 5)) → w ≡ two_verdict (sorts_from sorts)
  unfolding two_verdict
  two_right m k e z f = rw (sorts_two sorts m k, sym e ∙ z) f

  pub two_left : {v : ℕ} → 6 ≤ sorts → sorts ≤ 30 → v ≡ value_verdict (sort_of ((sorts - 6) / 5)) → v ≢ 0 → v ≡ two_verdict (sorts_from sorts)
  unfolding two_verdict
  two_left {v} m k e z = rw (sorts_two sorts m k, ← e, ne_eqb v 0 z)

-- ---- marks of calls

put_as : {P P' : List ℕ} {a b : Cursor} {x y : List ℕ} {m n : Marks} → x ≡ y → m ≡ n → PutMarked P P' a b x m → PutMarked P P' a b y n
put_as e f h = rw e at (rw f at h)

marks_as : {v w : ℕ} → v ≡ w → ◌≡◌ {A = Marks} (record { verdict = v; beyond = false }) (record { verdict = w; beyond = false })
marks_as e = rw e

-- the byte of a call
call_byte : (f : Function) → (24 + number_of_function (Some f)) ∷ [] ≡ call_bytes (name_of (number_of_function (Some f)))
unfolding call_bytes
call_byte Count = refl
call_byte Length = refl
call_byte Value = refl
call_byte Match = refl
call_byte Search = refl

module _ {P : List ℕ} {a b : Cursor} {n : Option Function} (sorts : ℕ) {v : ℕ} (e : v ≡ call_verdict (name_of (number_of_function n)) (sorts_from sorts)) (k : Marked a b (record { verdict = v; beyond = false })) where
  -- a call of a function that there is not writes nothing
  pub call_unknown : n ≡ None → PutMarked P P a b (call_bytes (name_of (number_of_function n))) (call_marks (number_of_function n) sorts)
  unfolding call_bytes
  call_unknown z = put_as (rw z) (marks_as e) (marked_put k put_none)

  -- every other call is written as one byte
  pub call_known : {P' : List ℕ} {d : Cursor} {f : Function} {x : ℕ} → n ≡ Some f → x ≡ 24 + number_of_function (Some f) → Put P P' b d (x ∷ []) → PutMarked P P' a d (call_bytes (name_of (number_of_function n))) (call_marks (number_of_function n) sorts)
  call_known {f = f} z q p = put_as (rw (q, z) (call_byte f)) (marks_as e) (marked_put k p)

-- ---- comparisons

-- two verdicts in a row and a comparison
pub compare_done : {P P' : List ℕ} {a b c d : Cursor} {v w x y : ℕ} {z : List ℕ} → v ≡ x → w ≡ y → Marked a b (record { verdict = v; beyond = false }) → Marked b c (record { verdict = w; beyond = false }) →
    Put P P' c d z → PutMarked P P' a d z (record { verdict = first x y; beyond = false })
unfolding join_marks
compare_done e f g h p = put_as refl (marks_as (rw (e, f))) (marked_put (marked_then g h) p)

-- ---- negations

-- a verdict and a tail
pub judged_put : {P P' : List ℕ} {a b c : Cursor} {v w : ℕ} {x y : List ℕ} → v ≡ w → x ≡ y → Marked a b (record { verdict = v; beyond = false }) → Put P P' b c x
    → PutMarked P P' a c y (record { verdict = w; beyond = false })
judged_put e f k p = put_as f (marks_as e) (marked_put k p)

-- ---- flags

pub not_cond : (b : Bool) → not b ≡ cond b false true
not_cond true = refl
not_cond false = refl
