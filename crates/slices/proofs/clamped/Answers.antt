-- `slices::clamped` meets its contract. Each test decides which of the three it is.
use mir.Syntax.{w64}
use mir.ValLaws.{to_z-of_z}
use Rattle.slices.proofs.Bounds.{clamp_low, clamp_high, clamp_same}
use Rattle.slices.proofs.clamped.Goals as goal

pub returns-then-z-lo : goal.returns-then-z-lo
returns-then-z-lo c =
    let l = to_z-of_z w64 c.args.lo c.ranges.lo in
    rw l (clamp_low c.args.lo c.args.hi c.args.z (rw (l, to_z-of_z w64 c.args.z c.ranges.z) at c.if-z-lo.true))

pub returns-then-hi-z : goal.returns-then-hi-z
returns-then-hi-z c =
    let l = to_z-of_z w64 c.args.lo c.ranges.lo in
    let h = to_z-of_z w64 c.args.hi c.ranges.hi in
    let z = to_z-of_z w64 c.args.z c.ranges.z in
    rw h (clamp_high c.args.lo c.args.hi c.args.z (rw (l, z) at c.if-z-lo.false) (rw (h, z) at c.if-hi-z.true))

pub returns : goal.returns
returns c =
    let l = to_z-of_z w64 c.args.lo c.ranges.lo in
    let h = to_z-of_z w64 c.args.hi c.ranges.hi in
    let z = to_z-of_z w64 c.args.z c.ranges.z in
    rw z (clamp_same c.args.lo c.args.hi c.args.z (rw (l, z) at c.if-z-lo.false) (rw (h, z) at c.if-hi-z.false))
