-- `text::blocks::starts_as` meets its contract.
use Rattle.text.proofs.Lengths.{starts_none, starts_any}
use Rattle.text.proofs.blocks.starts_as.Goals as goal

pub returns-then-kind-lt6 : goal.returns-then-kind-lt6
returns-then-kind-lt6 c = λ _. starts_none c.args.kind c.args.c c.args.x c.if-kind-lt6.true

pub returns : goal.returns
returns c = starts_any c.args.kind c.args.c c.args.x c.ranges.c.fits c.low_mark-four.result c.low_mark-four.ensures c.low_mark.result c.low_mark.ensures
