-- `regex_marks::passes::joined` meets its contract.
use borrow.Author.Tests.{ne_eqb}
use Rattle.regex_marks.proofs.passes.joined.Goals as goal

pub returns-then-k-eq2 : goal.returns-then-k-eq2
returns-then-k-eq2 c = rw c.if-k-eq2.true c.chain.ensures

pub returns-else-k-eq2 : goal.returns-else-k-eq2
returns-else-k-eq2 c = rw (ne_eqb _ 2 c.if-k-eq2.false) c.fork.ensures
