-- `plan_items::finite` meets its contract.
use Rattle.definition.specs.Tables.{is_finite}
use mathlib.Core.Path.{refl}
use Rattle.plan_items.proofs.finite.Goals as goal

pub returns : goal.returns
unfolding is_finite
returns c = refl
