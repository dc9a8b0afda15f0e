-- `slices::add_once` meets its contract. A sum with n fits, since both are small.
use native.Mathlib.Omega.{arith}
use mir.Syntax.{w64}
use mir.ValLaws.{to_z_pos, to_z-of_z}
use Rattle.slices.proofs.Signs.{sum_fits, range_mag}
use Rattle.slices.proofs.Bounds.{added, not_added}
use lib.IntN.{pos}
use Rattle.slices.proofs.add_once.Goals as goal

pub overflow_add-result : goal.overflow_add-result
overflow_add-result c =
    rw (to_z-of_z w64 c.args.i c.ranges.i, to_z_pos w64 c.args.n (omega arith))
    (sum_fits c.args.i (pos c.args.n) (omega (arith, range_mag c.args.i c.requires.1)))

pub returns-then-i-lt0 : goal.returns-then-i-lt0
returns-then-i-lt0 c =
    let f = sum_fits c.args.i (pos c.args.n) (omega (arith, range_mag c.args.i c.requires.1)) in
    rw (to_z-of_z w64 c.args.i c.ranges.i, to_z_pos w64 c.args.n (omega arith), to_z-of_z w64 _ f)
    (added c.args.n c.args.i (rw (to_z-of_z w64 c.args.i c.ranges.i) at c.if-i-lt0.true))

pub returns : goal.returns
returns c =
    rw (to_z-of_z w64 c.args.i c.ranges.i)
    (not_added c.args.n c.args.i (rw (to_z-of_z w64 c.args.i c.ranges.i) at c.if-i-lt0.false))
