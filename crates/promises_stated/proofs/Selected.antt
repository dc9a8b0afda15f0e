-- Document 01's starred sample rows, as outcomes of select, and of compile and then run, or of plan check and run where a row is a plan: one table under one theorem.
-- Assumes nothing.
use Rattle.std.specs.Prelude.{ℕ, ◌≡◌, refl, List, [], ◌∷◌}
use Rattle.std.proofs.Common.{sym, subst}
use Rattle.definition.specs.Outcomes.{CompileOutcome, RunOutcome, Runs, run_by}
use Rattle.definition.specs.Outcomes.Reading.{form}
use Rattle.definition_examples.specs.Gives.{Gives, PlanGives}
use Rattle.definition_examples.specs.Rows.{Row, row, plan_row, RowGives, AllGive, starred_rows}
use Rattle.definition_examples.proofs.Rows.{starred}
use Rattle.promises_stated.specs.Promises.{CompilesOnly, SelectsOnly, Listed, plan_in, pool_in, Answers, PlanAnswers, RowAnswers, AllAnswer}
use Rattle.promises_stated.proofs.Cases.{accepted_lists}
use Rattle.promises_stated.proofs.Written.{only_holds}
use Rattle.promises_stated.specs.Running.{runs_form, translated_passes, select_gives, held_runs}
use Rattle.promises_stated.proofs.Running.{runs_list}

module _ {s T X ns : List ℕ} (g : Gives s T X ns) where
  -- the definition's outcome for the row's form
  lists : (L : List ℕ) (at : ℕ) → Listed ns L at (run_by (form g.query) T X L at)
  lists L at = subst (λ (l : List ℕ). Listed l L at (run_by (form g.query) T X L at)) g.selects (accepted_lists g.query T X L at g.table)

  -- what select answers, since its contract leaves no other outcome
  selects : (L : List ℕ) (at : ℕ) (o : RunOutcome) → SelectsOnly s T X L at o → Listed ns L at o
  selects L at o k = subst (Listed ns L at) (sym (select_gives g.query g.reads k)) (lists L at)

  -- a run of what compile wrote, which is the plan of the row's form
  runs : (P R : List ℕ) (c : CompileOutcome) → CompilesOnly s P R c → c.refusal ≡ 0 → (L : List ℕ) (at : ℕ) (o : RunOutcome)
      → Runs (plan_in c) (pool_in c) T X L at o → Listed ns L at o
  runs P R c k z L at o r =
      subst (Listed ns L at) (sym (held_runs g.query T X L at g.reads (only_holds g.query k g.reads z) r)) (lists L at)

  pub row_answers : Answers s T X ns
  row_answers = record { some = λ L at. (run_by (form g.query) T X L at, record { reading = form g.query; reads = g.reads; is = refl }, lists L at); select = selects; run = runs }

module _ {plan pool T X ns : List ℕ} (g : PlanGives plan pool T X ns) where
  -- the definition's outcome for the form of the row's plan
  plan_lists : (L : List ℕ) (at : ℕ) (o : RunOutcome) → Runs plan pool T X L at o → Listed ns L at o
  plan_lists L at o r = subst (λ (l : List ℕ). Listed l L at o) g.selects (runs_list g.query T X L at g.translates g.table r)

  pub plan_answers : PlanAnswers plan pool T X ns
  plan_answers = record {
    check = λ n k. translated_passes g.query g.translates k;
    some = λ L at. let r = runs_form g.query T X L at g.translates in (run_by (form g.query) T X L at, r, plan_lists L at (run_by (form g.query) T X L at) r);
    run = plan_lists;
  }

-- ---- the rows

row_answer : (r : Row) → RowGives r → RowAnswers r
row_answer (row q ns) g = row_answers g
row_answer (plan_row plan pool q ns) g = plan_answers g

all_answer : (rs : List Row) → AllGive rs → AllAnswer rs
all_answer [] g = tt
all_answer (r ∷ rs) g = (row_answer r g.0, all_answer rs g.1)

-- every starred row is what select answers, and what compile and run answer; and the row that is a plan is what run answers
pub starred_answers : AllAnswer starred_rows
starred_answers = all_answer starred_rows starred
