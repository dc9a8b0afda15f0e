-- `text::encoding::is_between` meets its contract.
use mathlib.Core.Path.{sym}
use Rattle.text.proofs.Between.{between_end, between_at}
use Rattle.text.proofs.encoding.is_between.Goals as goal

pub returns-then-s-at : goal.returns-then-s-at
returns-then-s-at c = sym (between_end c.args.s.now c.args.at c.if-s-at.true)

pub returns : goal.returns
returns c = sym (between_at c.args.s.now c.args.at c.if-s-at.false)
