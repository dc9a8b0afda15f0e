-- `plan_items::in_range` meets its contract.
use Rattle.plan_items.proofs.Laws.{range_low, range_high}
use mathlib.Core.Path.{sym}
use Rattle.plan_items.proofs.in_range.Goals as goal

pub returns-then-n-le-MAX_INT : goal.returns-then-n-le-MAX_INT
returns-then-n-le-MAX_INT c = sym (range_low c.args.n c.if-n-le-MAX_INT.true)

pub returns : goal.returns
returns c = sym (range_high c.args.n c.ranges.n.fits c.if-n-le-MAX_INT.false)
