-- `regex_needed::closes` meets its contract.
use borrow.Author.Tests.{eqb-true}
use Rattle.regex_needed.proofs.Writing.{closed}
use Rattle.regex_needed.proofs.closes.Goals as goal

pub returns-then-n-code : goal.returns-then-n-code
returns-then-n-code c = λ e. closed c.skip-n.ensures c.if-n-code.true (eqb-true _ _ e)
