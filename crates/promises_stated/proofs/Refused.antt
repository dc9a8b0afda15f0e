-- A small input for refusals 1 and 9, and for a run's 11 (specs/Refused has the others). Assumes nothing.
use Rattle.std.specs.Prelude.{ℕ, ◌≡◌, refl, List, [], replicate}
use Rattle.std.proofs.Common.{arith, inl, inr}
use Rattle.std.proofs.lemmas.List.{length-replicate}
use Rattle.definition.specs.Outcomes.{RunOutcome}
use Rattle.definition.specs.TableOutcomes.{TableOutcome}
use Rattle.promises_stated.specs.Promises.{RunsOnly, ChecksTableOnly}
use Rattle.promises_stated.specs.Rooms.{no_blank as o}
use Rattle.promises_stated.proofs.Demands.{compile_exactly, run_exactly, table_check_exactly}
use Rattle.promises_stated.specs.Refused.{Refuses, root_form, root_plan, root_translates, no_plan}

-- 4,097 bytes
pub long : Refuses (replicate 4097 0x24) 1
long P R c k = (compile_exactly k 1).1 (inl (refl, omega (arith, length-replicate {A = ℕ} 4097 0x24)))

-- 9: no table at all
pub sized : (X : List ℕ) (o : TableOutcome) → ChecksTableOnly [] X o → o.refusal ≡ 9
sized X o k = (table_check_exactly [] X k 9).1 (inl (refl, inl refl))

module _ {L : List ℕ} {at : ℕ} (o : RunOutcome) where
  pub sized_run : RunsOnly root_plan [] [] [] L at o → o.refusal ≡ 9
  sized_run k = (run_exactly k 9).1 (inr (λ n. n root_form root_translates, inl (refl, inl refl)))

-- 11: no plan at all
pub unplanned_run : (T X L : List ℕ) (at : ℕ) (o : RunOutcome) → RunsOnly [] [] T X L at o → o.refusal ≡ 11
unplanned_run T X L at o k = (run_exactly k 11).1 (inl (refl, no_plan))
