-- The answers of compile, and of run and select, case by case: each refusal on its condition, and what every lent byte and place holds afterwards.
-- What it rests on; proofs/Cases has the answers. Assumes nothing.
use Rattle.std.specs.Prelude.{ℕ, ◌+◌, ◌≤◌, ◌≡◌, refl, Bool, true, false, ◌&&◌, List, ◌++◌, leb, length, drop}
use Rattle.std.proofs.Common.{arith, ap, sym, ◌∙◌, leb-true, leb-false, le-leb}
use Rattle.std.proofs.lemmas.Bool.{lt-leb}
use Rattle.std.proofs.lemmas.List.Edits.{sets, sets-eq}
use Rattle.definition.specs.Forms.{Query}
use Rattle.definition.specs.Plans.{plan_of, pool_of}
use Rattle.definition.specs.Outcomes.{Reading, CompileOutcome, write, compile_by}
use Rattle.definition.specs.Outcomes.Reading.{form}
use Rattle.basics.specs.Bools.{and_false}
use Rattle.promises_stated.specs.Promises.{CompileCase}
use Rattle.promises_stated.specs.Promises.CompileCase.{refuses as refusesQuery, small_plan, small_pool, writes}

-- ---- the answers of compile, case by case

-- a store from the first place on
stored : (P v : List ℕ) → length v ≤ length P → v ++ drop (length v) P ≡ sets P 0 v
stored P v h =
    let e : length v ≡ 0 + length v = omega arith in
    ap (λ (n : ℕ). v ++ drop n P) e ∙ sym (sets-eq v P 0 (omega arith))

-- both rooms are large enough, or one of them is too small
pub write_case : (q : Query) (P R : List ℕ) (a b : Bool) → leb (length (plan_of q)) (length P) ≡ a → leb (length (pool_of q)) (length R) ≡ b
    → CompileCase P R (form q) (write (a && b) (plan_of q) (pool_of q) P R)
unfolding write
write_case q P R true true e f =
    let m : length (plan_of q) ≤ length P = leb-true (length (plan_of q)) (length P) e in
    let n : length (pool_of q) ≤ length R = leb-true (length (pool_of q)) (length R) f in
    rw (← stored P (plan_of q) m, ← stored R (pool_of q) n) (writes q m n)
write_case q P R true false e f = small_pool q (leb-false (length (pool_of q)) (length R) f)
write_case q P R false b e f = small_plan q (leb-false (length (plan_of q)) (length P) e)

-- the cases leave one outcome: the definition's
pub compile_case_is : {P R : List ℕ} {x : Reading} {c : CompileOutcome} → CompileCase P R x c → c ≡ compile_by x P R
unfolding compile_by write
compile_case_is (refusesQuery n) = refl
compile_case_is {P} {R} (small_plan q h) = rw (lt-leb (length (plan_of q)) (length P) h)
compile_case_is {P} {R} (small_pool q h) = rw (lt-leb (length (pool_of q)) (length R) h, and_false (leb (length (plan_of q)) (length P)))
compile_case_is {P} {R} (writes q m n) = rw (le-leb (length (plan_of q)) (length P) m, le-leb (length (pool_of q)) (length R) n, stored P (plan_of q) m, stored R (pool_of q) n)
