-- `is_logic` meets its contract.
use borrow.Author.Tests.{le-leb, lt-leb}
use Rattle.eval_filters.proofs.is_logic.Goals as goal

pub returns-then-k-lt-NOT : goal.returns-then-k-lt-NOT
returns-then-k-lt-NOT c = rw (lt-leb 0x15 c.args.k c.if-k-lt-NOT.true)

pub returns : goal.returns
returns c = rw (le-leb 0x15 c.args.k c.if-k-lt-NOT.false)
