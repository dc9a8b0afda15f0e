-- `text::blocks::low_mark` meets its contract.
use Rattle.text.proofs.Lengths.{mark_taken, mark_left}
use Rattle.text.proofs.blocks.low_mark.Goals as goal

pub returns-then-x-top : goal.returns-then-x-top
returns-then-x-top c = mark_taken c.args.x c.args.top c.args.mark c.if-x-top.true

pub returns : goal.returns
returns c = mark_left c.args.x c.args.top c.args.mark c.if-x-top.false
