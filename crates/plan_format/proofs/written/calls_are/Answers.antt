-- `plan_format::written::calls_are` meets its contract, by what the definition computes.
use mathlib.Core.Path.{refl}
use Rattle.definition.specs.Plans.{code_test, code_function, code_literal, scope_kind}
use Rattle.plan_format.proofs.written.calls_are.Goals as goal

pub returns : goal.returns
unfolding code_test code_function code_literal scope_kind
returns c = refl
