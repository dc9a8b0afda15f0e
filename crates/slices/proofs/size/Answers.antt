-- `slices::size` meets its contract. The sign is taken off below 0.
use mir.Syntax.{w64}
use mir.ValLaws.{to_z-of_z}
use Rattle.slices.proofs.Signs.{cast_fits, zero_minus}
use Rattle.slices.proofs.Bounds.{negated_fits, negated_cast, negated_size}
use Rattle.slices.proofs.size.Goals as goal

pub overflow_sub-result : goal.overflow_sub-result
overflow_sub-result c = rw (to_z-of_z w64 c.args.i c.ranges.i, zero_minus c.args.i) (negated_fits c.args.i c.requires)

pub overflow_cast-result : goal.overflow_cast-result
overflow_cast-result c =
    let e = to_z-of_z w64 c.args.i c.ranges.i in
    let f = negated_fits c.args.i c.requires in
    rw (e, zero_minus c.args.i, to_z-of_z w64 _ f) (negated_cast c.args.i f (rw e at c.if-i-lt0.true))

pub returns-then-i-lt0 : goal.returns-then-i-lt0
returns-then-i-lt0 c =
    let e = to_z-of_z w64 c.args.i c.ranges.i in
    rw (e, zero_minus c.args.i, to_z-of_z w64 _ (negated_fits c.args.i c.requires)) (negated_size c.args.i)

pub overflow_cast-result-2 : goal.overflow_cast-result-2
overflow_cast-result-2 c =
    let e = to_z-of_z w64 c.args.i c.ranges.i in
    rw e (cast_fits c.args.i c.ranges.i (rw e at c.if-i-lt0.false))

pub returns : goal.returns
returns c = rw (to_z-of_z w64 c.args.i c.ranges.i)
