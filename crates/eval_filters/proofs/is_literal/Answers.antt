-- `is_literal` meets its contract.
use borrow.Author.Tests.{le-leb, lt-leb}
use Rattle.eval_filters.proofs.is_literal.Goals as goal

pub returns-then-k-lt-INTEGER : goal.returns-then-k-lt-INTEGER
returns-then-k-lt-INTEGER c = rw (lt-leb 0x10 c.args.k c.if-k-lt-INTEGER.true)

pub returns : goal.returns
returns c = rw (le-leb 0x10 c.args.k c.if-k-lt-INTEGER.false)
