-- `slices::element_at` meets its contract. The place is looked at with its sign, and then against n.
use mir.Syntax.{w64}
use mir.ValLaws.{to_z-of_z}
use Rattle.slices.specs.Walks.{place_list}
use Rattle.slices.proofs.Signs.{cast_fits}
use Rattle.slices.proofs.Bounds.{element_before, element_in, element_behind}
use Rattle.slices.proofs.element_at.Goals as goal

pub returns-then-i-lt0 : goal.returns-then-i-lt0
unfolding place_list
returns-then-i-lt0 c = element_before c.args.n c.args.i (rw (to_z-of_z w64 c.args.i c.ranges.i) at c.if-i-lt0.true)

pub overflow_cast-k : goal.overflow_cast-k
overflow_cast-k c =
    let e = to_z-of_z w64 c.args.i c.ranges.i in
    rw e (cast_fits c.args.i c.ranges.i (rw e at c.if-i-lt0.false))

pub returns-then-k-n : goal.returns-then-k-n
unfolding place_list
returns-then-k-n c =
    let e = to_z-of_z w64 c.args.i c.ranges.i in
    rw e (element_in c.args.n c.args.i (rw e at c.if-i-lt0.false) (rw e at c.if-k-n.true))

pub returns-else-k-n : goal.returns-else-k-n
unfolding place_list
returns-else-k-n c =
    let e = to_z-of_z w64 c.args.i c.ranges.i in
    element_behind c.args.n c.args.i (rw e at c.if-i-lt0.false) (rw e at c.if-k-n.false)
