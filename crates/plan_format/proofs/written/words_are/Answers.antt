-- `plan_format::written::words_are` meets its contract, by what the definition computes.
use mathlib.Core.Path.{refl}
use Rattle.definition.specs.Plans.{code_literal}
use Rattle.plan_format.proofs.written.words_are.Goals as goal

pub returns : goal.returns
unfolding code_literal
returns c = refl
