-- The test is the definition, at the format of 64 bits.
use Rattle.definition.specs.Tables.{is_finite}
use mathlib.Core.Path.{refl}
use Rattle.table.proofs.rules.finite.Goals as goal

pub returns : goal.returns
unfolding is_finite
returns c = refl
