-- `regex_needed::same` meets its contract.
use Rattle.regex_needed.proofs.Writing.{as_it_is}
use Rattle.regex_needed.proofs.same.Goals as goal

pub returns : goal.returns
returns c = as_it_is c.requires.fact_1 c.skip-n.ensures c.min-m.ensures c.copy-e.ensures
