-- `plan_format::written::kinds_are` meets its contract, by what the definition computes.
use mathlib.Core.Path.{refl}
use Rattle.definition.specs.Plans.{start_kind, code_segments, code_selector, code_literal, code_test, pooled, code_slice}
use Rattle.plan_format.proofs.written.kinds_are.Goals as goal

pub returns : goal.returns
unfolding start_kind code_segments code_selector code_literal code_test pooled code_slice
returns c = refl
