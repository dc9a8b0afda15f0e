-- `plan_format::written::heads_are` meets its contract, by what the definition computes.
use mathlib.Core.Path.{refl}
use Rattle.definition.specs.Bytes.{number, little_endian}
use Rattle.definition.specs.Forms.{many_selectors}
use Rattle.definition.specs.Plans.{code_segments, code_selectors, code_selector, pooled, code_slice}
use Rattle.plan_format.proofs.written.heads_are.Goals as goal

pub returns : goal.returns
unfolding code_segments code_selectors code_selector pooled code_slice number little_endian many_selectors
returns c = refl
