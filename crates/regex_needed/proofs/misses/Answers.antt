-- `regex_needed::misses` meets its contract.
use borrow.Author.Tests.{ltb-true}
use Rattle.regex_needed.proofs.Writing.{missed}
use Rattle.regex_needed.proofs.misses.Goals as goal

pub returns : goal.returns
returns c = λ e. missed c.measure.ensures (ltb-true _ _ e)
