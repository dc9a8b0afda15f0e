-- The answers of compile, and of run and select, case by case: each refusal on its condition, and what every lent byte and place holds afterwards. Assumes nothing.
use Rattle.std.specs.Prelude.{ℕ, ◌≡◌, refl, List, leb, length}
use Rattle.std.proofs.Common.{sym, subst}
use Rattle.definition.specs.Forms.{Query}
use Rattle.definition.specs.Plans.{plan_of, pool_of}
use Rattle.definition.specs.Tables.{Checked, check_table, tree}
use Rattle.definition.specs.Tables.Checked.{accepted, sized, wrong_at, text_at}
use Rattle.definition.specs.Evaluation.{selected}
use Rattle.definition.specs.Outcomes.{Reading, Reads, Spells, CompileOutcome, Compiles, RunOutcome, Runs, Selects, compile_by, refuse_run, run_table, run_by}
use Rattle.definition.specs.Outcomes.Reading.{refused, form}
use Rattle.promises_stated.specs.Promises.{CompileCase, Listed, RunCase}
use Rattle.promises_stated.specs.Promises.CompileCase.{refuses as refusesQuery}
use Rattle.promises_stated.specs.Promises.RunCase.{refuses as refusesRun, wrong_size_lem, wrong_node, wrong_text, lists}
use Rattle.promises_stated.specs.Lists.{listed_one}
use Rattle.promises_stated.proofs.Lists.{placed_listed}
use Rattle.promises_stated.specs.Cases.{write_case}

-- ---- the answers of compile, case by case

pub compile_case : (x : Reading) (P R : List ℕ) → CompileCase P R x (compile_by x P R)
unfolding compile_by
compile_case (refused n) P R = refusesQuery n
compile_case (form q) P R = write_case q P R (leb (length (plan_of q)) (length P)) (leb (length (pool_of q)) (length R)) refl refl

-- what compile answers, case by case
pub compile_cases : {s P R : List ℕ} {c : CompileOutcome} → Compiles s P R c → (x : Reading) × Reads s x × CompileCase P R x c
compile_cases {P = P} {R = R} k = (k.reading, k.reads, subst (CompileCase P R k.reading) (sym k.is) (compile_case k.reading P R))

-- ---- the answers of run and of select, case by case

-- what the check of the table comes to
table_case : (q : Query) (T X L : List ℕ) (at : ℕ) (c : Checked) → check_table T X ≡ c → RunCase T X L at (form q) (run_table c q T X L at)
unfolding run_table refuse_run
table_case q T X L at accepted e = lists q e (placed_listed (selected q (tree T X)) L at)
table_case q T X L at sized e = wrong_size_lem q e
table_case q T X L at (wrong_at i) e = wrong_node q i e
table_case q T X L at (text_at i) e = wrong_text q i e

pub run_case : (x : Reading) (T X L : List ℕ) (at : ℕ) → RunCase T X L at x (run_by x T X L at)
unfolding run_by refuse_run
run_case (refused n) T X L at = refusesRun n
run_case (form q) T X L at = table_case q T X L at (check_table T X) refl

-- the outcome for a form on an accepted table
pub accepted_lists : (q : Query) (T X L : List ℕ) (at : ℕ) → check_table T X ≡ accepted → Listed (selected q (tree T X)) L at (run_by (form q) T X L at)
unfolding run_by run_table
accepted_lists q T X L at h = rw h (placed_listed (selected q (tree T X)) L at)

-- the cases leave one outcome: the definition's
pub case_is : {T X L : List ℕ} {at : ℕ} {x : Reading} {o : RunOutcome} → RunCase T X L at x o → o ≡ run_by x T X L at
unfolding run_by run_table refuse_run
case_is (refusesRun n) = refl
case_is (wrong_size_lem q e) = rw e
case_is (wrong_node q i e) = rw e
case_is (wrong_text q i e) = rw e
case_is {T} {X} {L} {at} (lists q e l) = listed_one l (accepted_lists q T X L at e)

-- what select and run answer, case by case
pub select_cases : {s T X L : List ℕ} {at : ℕ} {o : RunOutcome} → Selects s T X L at o → (x : Reading) × Reads s x × RunCase T X L at x o
select_cases {T = T} {X = X} {L = L} {at = at} k = (k.reading, k.reads, subst (RunCase T X L at k.reading) (sym k.is) (run_case k.reading T X L at))

pub run_cases : {plan pool T X L : List ℕ} {at : ℕ} {o : RunOutcome} → Runs plan pool T X L at o → (x : Reading) × Spells plan pool x × RunCase T X L at x o
run_cases {T = T} {X = X} {L = L} {at = at} k = (k.reading, k.reads, subst (RunCase T X L at k.reading) (sym k.is) (run_case k.reading T X L at))
