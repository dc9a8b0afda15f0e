-- One plan serves before and after values change kind: the plan of `$.a[?@ >= 20]` and five tables (specs/Served), each under the same computed test.
use Rattle.std.specs.Prelude.{ℕ, ◌≡◌, refl, List}
use Rattle.std.proofs.Common.{subst}
use Rattle.definition.specs.Forms.{Query}
use Rattle.definition.specs.Tables.{check_table, tree}
use Rattle.definition.specs.Tables.Checked.{accepted}
use Rattle.definition.specs.Evaluation.{selected}
use Rattle.definition.specs.Outcomes.{Translates}
use Rattle.definition_examples.specs.Sample.{sample_text}
use Rattle.definition_examples.specs.Computes.{computes}
use Rattle.promises_stated.specs.Promises.{Listed, Version, Serves, AllServed}
use Rattle.promises_stated.proofs.Running.{runs_list}
use Rattle.promises_stated.specs.Served.{serving_plan, serving_pool, serving, versions}

-- a version, from the two things that are computed for it
serves : {q : Query} {plan pool : List ℕ} (v : Version) → Translates q plan pool → check_table v.table sample_text ≡ accepted → selected q (tree v.table sample_text) ≡ v.nodes → Serves plan pool v
serves {q} v t h e L at o r = subst (λ (ns : List ℕ). Listed ns L at o) e (runs_list q v.table sample_text L at t h r)

-- the same plan serves every version
pub served : AllServed serving_plan serving_pool versions
unfolding computes
served = (serves _ serving refl refl, (serves _ serving refl refl, (serves _ serving refl refl, (serves _ serving refl refl, (serves _ serving refl refl, tt)))))
