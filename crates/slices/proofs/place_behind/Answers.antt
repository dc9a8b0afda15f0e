-- `slices::place_behind` meets its contract. Only -1 is below 0.
use mir.Syntax.{w64}
use mir.ValLaws.{to_z-of_z}
use Rattle.slices.proofs.Signs.{cast_fits}
use Rattle.slices.proofs.Bounds.{minus_one_behind, behind_fits, behind}
use Rattle.slices.proofs.place_behind.Goals as goal

pub returns-then-i-lt0 : goal.returns-then-i-lt0
returns-then-i-lt0 c = minus_one_behind c.args.i c.requires.low (rw (to_z-of_z w64 c.args.i c.ranges.i) at c.if-i-lt0.true)

pub overflow_cast-result : goal.overflow_cast-result
overflow_cast-result c =
    let e = to_z-of_z w64 c.args.i c.ranges.i in
    rw e (cast_fits c.args.i c.ranges.i (rw e at c.if-i-lt0.false))

pub overflow_add-result : goal.overflow_add-result
overflow_add-result c =
    let e = to_z-of_z w64 c.args.i c.ranges.i in
    rw e (behind_fits c.args.i c.ranges.i)

pub returns : goal.returns
returns c =
    let e = to_z-of_z w64 c.args.i c.ranges.i in
    rw e (behind c.args.i (rw e at c.if-i-lt0.false))
