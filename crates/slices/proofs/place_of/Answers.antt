-- `slices::place_of` meets its contract. The number is not negative.
use mir.Syntax.{w64}
use mir.ValLaws.{to_z-of_z}
use Rattle.slices.proofs.Signs.{cast_fits}
use Rattle.slices.proofs.Bounds.{between_not_below, not_below_same}
use Rattle.slices.proofs.place_of.Goals as goal

pub overflow_cast-result : goal.overflow_cast-result
overflow_cast-result c = rw (to_z-of_z w64 c.args.i c.ranges.i) (cast_fits c.args.i c.ranges.i (between_not_below c.args.i c.requires.low))

pub returns : goal.returns
returns c = rw (to_z-of_z w64 c.args.i c.ranges.i) (not_below_same c.args.i (between_not_below c.args.i c.requires.low))
