-- A run has one outcome: for each input one answer, and one content of the lent list. Assumes nothing.
use Rattle.std.specs.Prelude.{ℕ, ◌≡◌, refl, List, cond, eqb, Result, Ok, Err}
use Rattle.std.proofs.Common.{sym, ap, ◌∙◌}
use Rattle.definition.specs.Outcomes.{RunOutcome, Runs}
use Rattle.plan_laws.specs.One.{runs_one}
use Rattle.table.specs.declared.TableRefusal.TheVariants.{WrongSize, WrongNode, WrongText}
use Rattle.run.specs.declared.RunRefusal.{RunRefusal}
use Rattle.run.specs.declared.RunRefusal.TheVariants.{WrongPlan, Table, WrongStart, NoRoom}
use Rattle.run.specs.Outcomes.{ran}

-- the answer that is reported so
answer_of : RunOutcome → Result ℕ RunRefusal
answer_of o =
    cond (eqb o.refusal 0) (Ok o.count)
    (cond (eqb o.refusal 11) (Err WrongPlan)
    (cond (eqb o.refusal 9) (Err (Table WrongSize))
    (cond (eqb o.refusal 10) (Err (Table (WrongNode o.node)))
    (cond (eqb o.refusal 17) (Err (Table (WrongText o.node)))
    (cond (eqb o.refusal 14) (Err WrongStart) (Err NoRoom))))))

answer_back : (r : Result ℕ RunRefusal) (L : List ℕ) → answer_of (ran r L) ≡ r
unfolding answer_of ran
answer_back (Ok n) L = refl
answer_back (Err WrongPlan) L = refl
answer_back (Err (Table WrongSize)) L = refl
answer_back (Err (Table (WrongNode i))) L = refl
answer_back (Err (Table (WrongText i))) L = refl
answer_back (Err WrongStart) L = refl
answer_back (Err NoRoom) L = refl

list_back : (r : Result ℕ RunRefusal) (L : List ℕ) → (ran r L).places ≡ L
unfolding ran
list_back (Ok n) L = refl
list_back (Err WrongPlan) L = refl
list_back (Err (Table WrongSize)) L = refl
list_back (Err (Table (WrongNode i))) L = refl
list_back (Err (Table (WrongText i))) L = refl
list_back (Err WrongStart) L = refl
list_back (Err NoRoom) L = refl

pub run_one : (plan pool T X L : List ℕ) (at : ℕ) (r r' : Result ℕ RunRefusal) (l l' : List ℕ) → Runs plan pool T X L at (ran r l) → Runs plan pool T X L at (ran r' l') → (r ≡ r') × (l ≡ l')
run_one plan pool T X L at r r' l l' a b =
    let e = runs_one a b in
    (sym (answer_back r l) ∙ ap answer_of e ∙ answer_back r' l', sym (list_back r l) ∙ ap (λ (o : RunOutcome). o.places) e ∙ list_back r' l')
