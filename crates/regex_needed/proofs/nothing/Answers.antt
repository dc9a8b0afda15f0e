-- `regex_needed::nothing` meets its contract.
use Rattle.regex_needed.proofs.Writing.{no_text, written_on}
use Rattle.regex_needed.proofs.nothing.Goals as goal

pub returns : goal.returns
returns c = no_text c.requires.fact_1 c.skip-n.ensures (written_on (written_on c.put-a.ensures c.put-b.ensures) c.put-c.ensures)
