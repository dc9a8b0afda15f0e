-- `slices::slice_step` meets its contract. The flag decides.
use mir.Syntax.{w64}
use mir.ValLaws.{to_z-of_z}
use Rattle.slices.proofs.Bounds.{step_given, step_default}
use Rattle.slices.proofs.slice_step.Goals as goal

pub returns-then-has_step : goal.returns-then-has_step
returns-then-has_step c = rw (to_z-of_z w64 c.args.step c.ranges.step) (step_given c.args.has_step c.args.step c.if-has_step.true)

pub returns-else-has_step : goal.returns-else-has_step
returns-else-has_step c = step_default c.args.has_step c.args.step c.if-has_step.false
