-- `number_literals::finite` meets its contract.
use mathlib.Core.Path.{refl}
use Rattle.definition.specs.Tables.{is_finite}
use Rattle.number_literals.proofs.finite.Goals as goal

pub returns : goal.returns
unfolding is_finite
returns c = refl
