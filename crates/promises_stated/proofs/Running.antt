-- On an accepted table, a plan and a pool that translate a query form list the nodes selected from its tree. Assumes nothing.
use Rattle.std.specs.Prelude.{ℕ, ◌≡◌, List}
use Rattle.std.proofs.Common.{sym, subst}
use Rattle.definition.specs.Forms.{Query}
use Rattle.definition.specs.Tables.{check_table, tree}
use Rattle.definition.specs.Tables.Checked.{accepted}
use Rattle.definition.specs.Evaluation.{selected}
use Rattle.definition.specs.Outcomes.{Translates, CompileOutcome, RunOutcome, Runs}
use Rattle.promises_stated.specs.Promises.{Listed, plan_in, pool_in, PlanWritten}
use Rattle.promises_stated.proofs.Cases.{accepted_lists}
use Rattle.promises_stated.specs.Running.{runs_as, translates}

module _ (q : Query) (T X L : List ℕ) (at : ℕ) where
  -- on an accepted table the outcome is the list of the nodes selected from its tree
  pub runs_list : {plan pool : List ℕ} {o : RunOutcome} → Translates q plan pool → check_table T X ≡ accepted → Runs plan pool T X L at o → Listed (selected q (tree T X)) L at o
  runs_list t h r = subst (Listed (selected q (tree T X)) L at) (sym (runs_as q T X L at t r)) (accepted_lists q T X L at h)

module _ {s P R : List ℕ} {c : CompileOutcome} (w : PlanWritten s P R c) where
  -- a run of what compile wrote lists the query's nodes
  pub written_lists : (T X L : List ℕ) (at : ℕ) {o : RunOutcome} → check_table T X ≡ accepted → Runs (plan_in c) (pool_in c) T X L at o → Listed (selected w.query (tree T X)) L at o
  written_lists T X L at h r = runs_list w.query T X L at (translates w) h r
