-- A plan and a pool that translate a query form run as that form; and select of a query gives what running its plan gives.
-- What they list on an accepted table is in proofs/Running. Assumes nothing.
use Rattle.std.specs.Prelude.{ℕ, ◌↔◌, ◌≡◌, refl, List}
use Rattle.std.proofs.Common.{ap, sym, ◌∙◌, subst}
use Rattle.definition.specs.Forms.{Query}
use Rattle.definition.specs.Plans.{plan_of, pool_of}
use Rattle.definition.specs.Outcomes.{Reading, Reads, Translates, spelled, CompileOutcome, RunOutcome, Runs, Selects, ChecksPlan, refusal_of, run_by}
use Rattle.definition.specs.Outcomes.Reading.{form}
use Rattle.compile_forms.specs.Keeps.{compiled_keeps}
use Rattle.plan_laws.specs.One.{checks_one, runs_one}
use Rattle.promises_stated.specs.Promises.{ReadsOnly, SelectsOnly, RunsOnly, ChecksPlanOnly, plan_in, pool_in, Holds, PlanWritten}

-- ---- plans that translate a form

module _ (q : Query) (T X L : List ℕ) (at : ℕ) where
  -- there is an outcome
  pub runs_form : {plan pool : List ℕ} → Translates q plan pool → Runs plan pool T X L at (run_by (form q) T X L at)
  runs_form t = record { reading = form q; reads = spelled q t; is = refl }

  -- and every outcome is what the definition gives for the form
  pub runs_as : {plan pool : List ℕ} {o : RunOutcome} → Translates q plan pool → Runs plan pool T X L at o → o ≡ run_by (form q) T X L at
  runs_as t r = runs_one r (runs_form t)

  -- select of a query that has this form and no other reading
  pub selects_as : {s : List ℕ} {o : RunOutcome} → ReadsOnly s (form q) → Selects s T X L at o → o ≡ run_by (form q) T X L at
  selects_as r u = u.is ∙ ap (λ (y : Reading). run_by y T X L at) (r.only u.reading u.reads)

-- plan check accepts what translates a form
pub translated_passes : {plan pool : List ℕ} {n : ℕ} (q : Query) → Translates q plan pool → ChecksPlan plan pool n → n ≡ 0
unfolding refusal_of
translated_passes q t k = checks_one k (record { reading = form q; reads = spelled q t; is = refl })

-- so it is what running the query's plan gives
pub selects_run : {s T X L : List ℕ} {at : ℕ} {o o' : RunOutcome} (q : Query) → ReadsOnly s (form q) → Selects s T X L at o → Runs (plan_of q) (pool_of q) T X L at o' → o ≡ o'
selects_run {s} {T} {X} {L} {at} q r k u = selects_as q T X L at r k ∙ sym (runs_as q T X L at (compiled_keeps s q r.is) u)

-- the contract of select leaves what the query's form gives
pub select_gives : {s T X L : List ℕ} {at : ℕ} {o : RunOutcome} (q : Query) → Reads s (form q) → SelectsOnly s T X L at o → o ≡ run_by (form q) T X L at
select_gives {T = T} {X = X} {L = L} {at = at} q r k = sym (k.only (run_by (form q) T X L at) (record { reading = form q; reads = r; is = refl }))

-- the plan of a query: every outcome of a run is the definition's, and the definition's is one
pub runs_iff : {s : List ℕ} (q : Query) → Reads s (form q) → (T X L : List ℕ) (at : ℕ) (o : RunOutcome) → Runs (plan_of q) (pool_of q) T X L at o ↔ (o ≡ run_by (form q) T X L at)
runs_iff {s} q r T X L at o = (λ u. runs_as q T X L at (compiled_keeps s q r) u, λ e. subst (Runs (plan_of q) (pool_of q) T X L at) (sym e) (runs_form q T X L at (compiled_keeps s q r)))

-- ---- what a plan and a pool spell settles plan check and run: their contracts need not say that there is one outcome

pub runs_settled : {plan pool T X L : List ℕ} {at : ℕ} {o : RunOutcome} → Runs plan pool T X L at o → RunsOnly plan pool T X L at o
runs_settled r = record { is = r; only = λ o u. runs_one u r }

pub checks_settled : {plan pool : List ℕ} {n : ℕ} → ChecksPlan plan pool n → ChecksPlanOnly plan pool n
checks_settled k = record { is = k; only = λ m u. checks_one u k }

-- ---- the bytes that compile left in its rooms

-- they translate the form whose plan and pool they hold
pub held_translates : {s P R : List ℕ} {c : CompileOutcome} (q : Query) → Reads s (form q) → Holds q P R c → Translates q (plan_in c) (pool_in c)
held_translates {s} {c = c} q r h =
    subst (λ (p : List ℕ). Translates q p (pool_in c)) (sym h.plan)
    (subst (Translates q (plan_of q)) (sym h.pool) (compiled_keeps s q r))

-- so they run as that form
pub held_runs : {s P R : List ℕ} {c : CompileOutcome} (q : Query) (T X L : List ℕ) (at : ℕ) {o : RunOutcome} → Reads s (form q) → Holds q P R c
    → Runs (plan_in c) (pool_in c) T X L at o → o ≡ run_by (form q) T X L at
held_runs q T X L at r h u = runs_as q T X L at (held_translates q r h) u

module _ {s P R : List ℕ} {c : CompileOutcome} (w : PlanWritten s P R c) where
  abbrev pub translates : Translates w.query (plan_in c) (pool_in c)
  translates = held_translates w.query w.reads w.holds

  -- plan check accepts them
  pub written_passes : {n : ℕ} → ChecksPlan (plan_in c) (pool_in c) n → n ≡ 0
  written_passes k = translated_passes w.query translates k

  -- select of the query answers the same as the run
  pub written_selects : {T X L : List ℕ} {at : ℕ} {o o' : RunOutcome} → SelectsOnly s T X L at o → Runs (plan_in c) (pool_in c) T X L at o' → o ≡ o'
  written_selects {T} {X} {L} {at} k r = select_gives w.query w.reads k ∙ sym (runs_as w.query T X L at translates r)
