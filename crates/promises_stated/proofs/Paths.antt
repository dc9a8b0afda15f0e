-- Path of a node: when each of its answers is given; and what compile, run and select do with a path of at most 4,096 bytes. Assumes nothing.
use Rattle.std.specs.Prelude.{ℕ, ◌≤◌, ◌<◌, ◌≡◌, List, [], ◌∷◌, cond, length}
use Rattle.std.proofs.Common.{sym, ap, ◌∙◌}
use Rattle.std.proofs.Math.Path.{refl, subst}
use Rattle.std.proofs.Math.Dec.{ltb}
use Rattle.definition.specs.Limits.{max_query, max_plan}
use Rattle.definition.specs.Tables.{node_count, check_table}
use Rattle.definition.specs.Tables.Checked.{accepted}
use Rattle.definition.specs.Outcomes.{CompileOutcome, RunOutcome, Runs}
use Rattle.definition.specs.Paths.{form_of, path_of, PathOutcome, path_outcome}
use Rattle.table_path_laws.specs.Addresses.{path_reads}
use Rattle.promises_stated.specs.Promises.{CompilesOnly, SelectsOnly, PathOnly, Answers, alone, plan_in, pool_in}
use Rattle.promises_stated.specs.Refusals.{First, path_rules}
use Rattle.promises_stated.proofs.Checks.{table_first}
use Rattle.promises_stated.proofs.Written.{enough}
use Rattle.promises_stated.proofs.Selected.{row_answers}
use Rattle.promises_stated.specs.Paths.{rest, path_rest, number_by, path_gives, only}

module _ (T X : List ℕ) (i : ℕ) (B : List ℕ) where
  -- exactly when each number is answered
  pub path_first : {o : PathOutcome} → PathOnly T X i B o → First (path_rules T X i B) o.refusal
  unfolding path_outcome
  path_first e =
      let x = ltb i (node_count T) in
      let y = ltb (length B) (length (path_of T X i)) in
      subst (First (path_rules T X i B)) (sym (ap (λ (o : PathOutcome). o.refusal) e ∙ number_by T X i B (check_table T X) x y refl))
      (table_first T X (rest T X i B) (cond x (cond y 16 0) 15) (check_table T X) refl (λ a. path_rest T X i B x y refl refl))

module _ (T X : List ℕ) (h : check_table T X ≡ accepted) (i : ℕ) (l : i < node_count T) (m : length (path_of T X i) ≤ max_query) where
  -- select and run answer by the list of the one node, on every list from every position
  path_answers : Answers (path_of T X i) T X (i ∷ [])
  path_answers = row_answers (path_gives T X h i l m)

  -- compile takes the path where its rooms have 65,535 bytes each
  pub path_compiles : {P R : List ℕ} {c : CompileOutcome} → CompilesOnly (path_of T X i) P R c → max_plan ≤ length P → max_plan ≤ length R → c.refusal ≡ 0
  path_compiles k a b = enough (form_of T X i) (path_reads T X h i l m) k a b

  -- what compile wrote, run in a list with a place from the start position on, writes that node there and nothing else
  pub path_runs : {P R L : List ℕ} {at : ℕ} {c : CompileOutcome} {o : RunOutcome} → CompilesOnly (path_of T X i) P R c → c.refusal ≡ 0
      → at < length L → Runs (plan_in c) (pool_in c) T X L at o → o ≡ alone i L at
  path_runs {P} {R} {L} {at} {c} {o} k z b r = only T X h i l m b (path_answers.run P R c k z L at o r)

  -- and so does select
  pub path_selected : {L : List ℕ} {at : ℕ} {o : RunOutcome} → at < length L → SelectsOnly (path_of T X i) T X L at o → o ≡ alone i L at
  path_selected {L} {at} {o} b k = only T X h i l m b (path_answers.select L at o k)
