-- `plan_format::written::lengths_are` meets its contract, by what the definition computes.
use mathlib.Core.Path.{refl}
use Rattle.definition.specs.Bytes.{little_endian}
use Rattle.definition.specs.Plans.{code_selector, code_literal, pooled, code_slice, eight_of}
use Rattle.plan_format.proofs.written.lengths_are.Goals as goal

pub returns : goal.returns
unfolding code_selector code_literal pooled code_slice eight_of little_endian
returns c = refl
