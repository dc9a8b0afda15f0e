-- What compile writes where it succeeds: the plan and the pool of the query's form, in the first bytes of the two rooms, and nothing behind them. Assumes nothing.
use Rattle.std.specs.Prelude.{ℕ, ◌≤◌, ◌≡◌, refl, List, length}
use Rattle.std.proofs.Common.{arith, ap, sym, subst}
use Rattle.definition.specs.Limits.{max_plan}
use Rattle.definition.specs.Forms.{Query}
use Rattle.definition.specs.Plans.{plan_of, pool_of}
use Rattle.definition.specs.Outcomes.{Reading, Reads, CompileOutcome, Compiles, compile_by}
use Rattle.definition.specs.Outcomes.Reading.{refused, form}
use Rattle.compile_forms.specs.Keeps.{compiled_keeps}
use Rattle.promises_stated.specs.Promises.{ReadsOnly, CompilesOnly, CompileCase, Holds, PlanWritten}
use Rattle.promises_stated.proofs.Cases.{compile_case}
use Rattle.promises_stated.specs.Written.{case_holds, outcome_refused, same_held, case_enough}

-- ---- what a successful compile writes

-- of the outcomes with refusal 0 each holds the plan and the pool of a form
outcome_holds : {P R : List ℕ} {c : CompileOutcome} (q : Query) → c ≡ compile_by (form q) P R → c.refusal ≡ 0 → Holds q P R c
outcome_holds {P} {R} q e z = case_holds (subst (CompileCase P R (form q)) (sym e) (compile_case (form q) P R)) z

-- a compile that answers refusal 0 wrote the plan and the pool of the query's form
pub written : {s P R : List ℕ} {c : CompileOutcome} → Compiles s P R c → c.refusal ≡ 0 → PlanWritten s P R c
written {s} {P} {R} {c} k z = by k.reading k.reads k.is
  where
    by : (x : Reading) → Reads s x → c ≡ compile_by x P R → PlanWritten s P R c
    by (refused n) r e = absurd (outcome_refused n P R r e z)
    by (form q) r e = record { query = q; reads = r; holds = outcome_holds q e z }

-- ---- what compile wrote settles what the query means

-- The contract of compile, where it answers refusal 0: every form of the query is the one whose plan and pool were written.
pub only_holds : {s P R : List ℕ} {c : CompileOutcome} (q : Query) → CompilesOnly s P R c → Reads s (form q) → c.refusal ≡ 0 → Holds q P R c
only_holds {P = P} {R = R} q k r z = outcome_holds q (sym (k.only (compile_by (form q) P R) (record { reading = form q; reads = r; is = refl }))) z

-- So it leaves the query one reading.
pub written_only : {s P R : List ℕ} {c : CompileOutcome} → CompilesOnly s P R c → c.refusal ≡ 0 → (w : PlanWritten s P R c) → ReadsOnly s (form w.query)
written_only {s} {P} {R} {c} k z w = record { is = w.reads; only = only }
  where
    only : (y : Reading) → Reads s y → y ≡ form w.query
    only (refused n) r = absurd (outcome_refused n P R r (sym (k.only (compile_by (refused n) P R) (record { reading = refused n; reads = r; is = refl }))) z)
    only (form q) r = ap form (same_held r w.reads (only_holds q k r z) w.holds)

-- ---- room enough

-- rooms of 65,535 bytes take the plan and the pool of every query that has a form
pub enough : {s P R : List ℕ} {c : CompileOutcome} (q : Query) → Reads s (form q) → CompilesOnly s P R c → max_plan ≤ length P → max_plan ≤ length R → c.refusal ≡ 0
enough {s} {P} {R} {c} q r k m n =
    let t = compiled_keeps s q r in
    let a : length (plan_of q) ≤ max_plan = t.plan_fits in
    let b : length (pool_of q) ≤ max_plan = t.pool_fits in
    let e : CompileCase P R (form q) c = subst (CompileCase P R (form q)) (k.only (compile_by (form q) P R) (record { reading = form q; reads = r; is = refl })) (compile_case (form q) P R) in
    case_enough e (omega arith) (omega arith)
