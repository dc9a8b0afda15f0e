-- `text::blocks::apart_as` meets its contract, by the numbers that bytes are turned into.
use Rattle.text.proofs.Lengths.{fits_two, fits_three, fits_four, fits_mixed}
use Rattle.text.proofs.blocks.apart_as.Goals as goal

pub returns-then-kind-eq2 : goal.returns-then-kind-eq2
returns-then-kind-eq2 c = fits_two c.args.kind c.args.c c.args.x c.ranges.c.fits c.if-kind-eq2.true

pub returns-then-kind-eq3 : goal.returns-then-kind-eq3
returns-then-kind-eq3 c = fits_three c.args.kind c.args.c c.args.x c.ranges.c.fits c.if-kind-eq3.true c.low_mark.result c.low_mark.ensures

pub returns-then-kind-eq4 : goal.returns-then-kind-eq4
returns-then-kind-eq4 c = fits_four c.args.kind c.args.c c.args.x c.ranges.c.fits c.if-kind-eq4.true c.low_mark-then-kind-eq4.result c.low_mark-then-kind-eq4.ensures c.above.result c.above.ensures

pub returns : goal.returns
returns c = fits_mixed c.args.kind c.args.c c.args.x c.ranges.c.fits c.if-kind-eq2.false c.if-kind-eq3.false c.if-kind-eq4.false
