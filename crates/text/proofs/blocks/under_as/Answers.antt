-- `text::blocks::under_as` meets its contract, by the numbers that bytes are turned into.
use Rattle.text.proofs.Lengths.{under_wide, under_any}
use Rattle.text.proofs.blocks.under_as.Goals as goal

pub returns-then-kind-eq5 : goal.returns-then-kind-eq5
returns-then-kind-eq5 c = under_wide c.args.kind c.args.c c.args.x c.ranges.c.fits c.if-kind-eq5.true c.low_mark.result c.low_mark.ensures

pub returns : goal.returns
returns c = under_any c.args.kind c.args.c c.args.x c.ranges.c.fits c.if-kind-eq5.false c.low_mark-2.result c.low_mark-2.ensures c.above.result c.above.ensures
