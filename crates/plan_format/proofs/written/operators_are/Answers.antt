-- `plan_format::written::operators_are` meets its contract, by what the definition computes.
use mathlib.Core.Path.{refl}
use Rattle.definition.specs.Plans.{operator_byte}
use Rattle.plan_format.proofs.written.operators_are.Goals as goal

pub returns : goal.returns
unfolding operator_byte
returns c = refl
