-- A series of plans: each count is the number of occurrences of its kind in all of them, and the counts add up to their items. Assumes nothing.
use Rattle.std.specs.Prelude.{ℕ, zero, suc, ◌+◌, ◌≤◌, ◌<◌, ◌≡◌, refl, cond, List, [], ◌∷◌, ◌++◌, eqb, length, get_or, replicate}
use Rattle.std.proofs.Common.{sym, ap, ◌∙◌, add-zero, add-suc, suc-add, zero-add, add_assoc, one-add, arith, ext_get_or, ne_eqb, eqb-true}
use Rattle.std.proofs.lemmas.List.{length-replicate, get_or-replicate}
use Rattle.std.proofs.lemmas.Bool.{eqb-false}
use Rattle.utf8_laws.specs.Bytes.{by_test}
use Rattle.tally_laws.specs.Items.{kinds_of, occurrences}
use Rattle.tally_laws.specs.Tallies.{tabulate_from, sum_at, with_plan}

-- ---- lists by their places

pub length_tabulate : (i n : ℕ) (f : ℕ → ℕ) → length (tabulate_from i n f) ≡ n
unfolding tabulate_from
length_tabulate i zero f = refl
length_tabulate i (suc n) f = ap suc (length_tabulate (suc i) n f)

pub get_d_tabulate : (i n j : ℕ) (f : ℕ → ℕ) → j < n → get_or (tabulate_from i n f) j 0 ≡ f (i + j)
unfolding tabulate_from
get_d_tabulate i zero j f h = absurd (omega arith)
get_d_tabulate i (suc n) zero f h = ap f (sym (add-zero i))
get_d_tabulate i (suc n) (suc j) f h = get_d_tabulate (suc i) n j f (omega arith) ∙ ap f (suc-add i j ∙ sym (add-suc i j))

-- ---- one plan behind the other

-- the kinds of the items of all plans
unfoldable pub kinds_of_all : List (List ℕ) → List ℕ
kinds_of_all [] = []
kinds_of_all (p ∷ ps) = kinds_of p ++ kinds_of_all ps

-- the counts when all of them were taken
unfoldable pub taken_all : List (List ℕ) → List ℕ → List ℕ
taken_all [] C = C
taken_all (p ∷ ps) C = taken_all ps (with_plan p C)

occurrences_append : (k : ℕ) (a b : List ℕ) → occurrences k (a ++ b) ≡ occurrences k a + occurrences k b
unfolding occurrences
occurrences_append k [] b = sym (zero-add (occurrences k b))
occurrences_append k (x ∷ a) b = ap (λ (n : ℕ). cond (eqb k x) 1 0 + n) (occurrences_append k a b) ∙ sym (add_assoc (cond (eqb k x) 1 0) (occurrences k a) (occurrences k b))

-- each count is the number of occurrences of its kind
pub each_from : (ps : List (List ℕ)) (C : List ℕ) (k : ℕ) → k < 256 → get_or (taken_all ps C) k 0 ≡ get_or C k 0 + occurrences k (kinds_of_all ps)
unfolding taken_all kinds_of_all occurrences
each_from [] C k h = sym (add-zero (get_or C k 0))
each_from (p ∷ ps) C k h =
    each_from ps (with_plan p C) k h
    ∙ ap (λ (n : ℕ). n + occurrences k (kinds_of_all ps)) (get_d_tabulate 0 256 k (sum_at p C) h ∙ ap (sum_at p C) (zero-add k))
    ∙ add_assoc (get_or C k 0) (occurrences k (kinds_of p)) (occurrences k (kinds_of_all ps))
    ∙ ap (λ (n : ℕ). get_or C k 0 + n) (sym (occurrences_append k (kinds_of p) (kinds_of_all ps)))

pub each_count : (ps : List (List ℕ)) (k : ℕ) → k < 256 → get_or (taken_all ps (replicate 256 0)) k 0 ≡ occurrences k (kinds_of_all ps)
each_count ps k h = each_from ps (replicate 256 0) k h ∙ ap (λ (n : ℕ). n + occurrences k (kinds_of_all ps)) (get_or-replicate 256 k 0 0 h) ∙ zero-add (occurrences k (kinds_of_all ps))

-- ---- all counts together

unfoldable pub sum_of : List ℕ → ℕ
sum_of [] = 0
sum_of (x ∷ l) = x + sum_of l

-- every number of a list is a byte
unfoldable pub Bytes : List ℕ → Type 0
Bytes [] = Unit {0}
Bytes (x ∷ l) = (x < 256) × Bytes l

pub bytes_append : (a b : List ℕ) → Bytes a → Bytes b → Bytes (a ++ b)
unfolding Bytes
bytes_append [] b h k = k
bytes_append (x ∷ a) b h k = (h.0, bytes_append a b h.1 k)

-- sums place by place
sum_both : (i n : ℕ) (f g : ℕ → ℕ) → sum_of (tabulate_from i n (λ k. f k + g k)) ≡ sum_of (tabulate_from i n f) + sum_of (tabulate_from i n g)
unfolding tabulate_from sum_of
sum_both i zero f g = refl
sum_both i (suc n) f g = let h = sum_both (suc i) n f g in omega arith

sum_none : (i n : ℕ) → sum_of (tabulate_from i n (λ k. 0)) ≡ 0
unfolding tabulate_from sum_of
sum_none i zero = refl
sum_none i (suc n) = zero-add (sum_of (tabulate_from (suc i) n (λ k. 0))) ∙ sum_none (suc i) n

-- one kind counts once where it lies inside, and not at all below
sum_past : (x i n : ℕ) → x < i → sum_of (tabulate_from i n (λ k. cond (eqb k x) 1 0)) ≡ 0
unfolding tabulate_from sum_of
sum_past x i zero h = refl
sum_past x i (suc n) h = let z = sum_past x (suc i) n (omega arith) in rw (ne_eqb i x (λ e. omega arith)) (zero-add (sum_of (tabulate_from (suc i) n (λ k. cond (eqb k x) 1 0))) ∙ z)

sum_one : (x i n : ℕ) → i ≤ x → x < i + n → sum_of (tabulate_from i n (λ k. cond (eqb k x) 1 0)) ≡ 1
unfolding tabulate_from sum_of
sum_one x i zero l h = absurd (omega arith)
sum_one x i (suc n) l h =
    by_test (eqb i x)
    (λ t. let e = eqb-true i x t in let z = sum_past x (suc i) n (omega arith) in rw (t, z) refl)
    (λ f. let e = eqb-false i x f in let z = sum_one x (suc i) n (omega arith) (omega arith) in rw (f, z) refl)

sum_kinds : (l : List ℕ) → Bytes l → sum_of (tabulate_from 0 256 (λ k. occurrences k l)) ≡ length l
unfolding Bytes occurrences
sum_kinds [] h = sum_none 0 256
sum_kinds (x ∷ l) h =
    sum_both 0 256 (λ k. cond (eqb k x) 1 0) (λ k. occurrences k l)
    ∙ ap (λ (n : ℕ). n + sum_of (tabulate_from 0 256 (λ k. occurrences k l))) (sum_one x 0 256 (omega arith) h.0)
    ∙ ap (λ (n : ℕ). 1 + n) (sum_kinds l h.1)
    ∙ one-add (length l)

length_taken : (ps : List (List ℕ)) (C : List ℕ) → length C ≡ 256 → length (taken_all ps C) ≡ 256
unfolding taken_all
length_taken [] C e = e
length_taken (p ∷ ps) C e = length_taken ps (with_plan p C) (length_tabulate 0 256 (sum_at p C))

taken_is : (ps : List (List ℕ)) → taken_all ps (replicate 256 0) ≡ tabulate_from 0 256 (λ k. occurrences k (kinds_of_all ps))
taken_is ps =
    let e = length_taken ps (replicate 256 0) (length-replicate {A = ℕ} 256 0) in
    ext_get_or 0 (taken_all ps (replicate 256 0)) (tabulate_from 0 256 (λ k. occurrences k (kinds_of_all ps))) (e ∙ sym (length_tabulate 0 256 (λ k. occurrences k (kinds_of_all ps))))
    (λ i h. each_count ps i (omega arith) ∙ sym (get_d_tabulate 0 256 i (λ k. occurrences k (kinds_of_all ps)) (omega arith) ∙ ap (λ (k : ℕ). occurrences k (kinds_of_all ps)) (zero-add i)))

-- the counts add up to the items of all plans taken
pub all_counts : (ps : List (List ℕ)) → Bytes (kinds_of_all ps) → sum_of (taken_all ps (replicate 256 0)) ≡ length (kinds_of_all ps)
all_counts ps h = ap sum_of (taken_is ps) ∙ sum_kinds (kinds_of_all ps) h
