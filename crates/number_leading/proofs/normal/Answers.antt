-- `number_leading::normal` meets its contract: the zeros before the leading bit are moved out.
use native.Mathlib.Omega.{arith}
use Rattle.number_leading.proofs.Shifts.{moved_up}
use Rattle.number_leading.proofs.normal.Goals as goal

pub returns : goal.returns
returns c =
    let m = moved_up c.args.n c.requires c.ranges.n.fits in
    (m.0, rw (m.0) m.1, m.2, omega arith)
