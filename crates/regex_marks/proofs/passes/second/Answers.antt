-- `regex_marks::passes::second` meets its contract.
use borrow.Author.Tests.{ne_eqb}
use mathlib.Core.Path.{refl}
use Rattle.regex_marks.proofs.passes.second.Goals as goal

pub returns-then-k-eq2 : goal.returns-then-k-eq2
returns-then-k-eq2 c = rw c.if-k-eq2.true c.enters.ensures

pub returns-else-k-eq2 : goal.returns-else-k-eq2
returns-else-k-eq2 c = rw (ne_eqb _ 2 c.if-k-eq2.false) refl
