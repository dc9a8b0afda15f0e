-- Plan bytes from anywhere: they are refused by 11 on every table and list, or they spell one query form and run as that form.
-- proofs/Stored says it of what plan check answers. Assumes nothing.
use Rattle.std.specs.Prelude.{ℕ, refl, List}
use Rattle.definition.specs.Outcomes.{Reading, Spells, spelled, not_spelled, refuse_run, refusal_of, run_by}
use Rattle.definition.specs.Outcomes.Reading.{refused}
use Rattle.plan_laws.specs.One.{translates_one, runs_one}
use Rattle.promises_stated.specs.Promises.{Stored}
use Rattle.promises_stated.specs.Promises.Stored.{refuses, spells}
use Rattle.promises_stated.specs.Running.{runs_as}

pub by_spelling : {plan pool : List ℕ} {x : Reading} → Spells plan pool x → Stored plan pool (refusal_of x)
unfolding refusal_of run_by refuse_run
by_spelling (spelled q t) = spells q t (λ p u. translates_one u t) (λ T X L at o r. runs_as q T X L at t r)
by_spelling (not_spelled n) = refuses n (λ T X L at o r. runs_one r (record { reading = refused 11; reads = not_spelled n; is = refl }))
