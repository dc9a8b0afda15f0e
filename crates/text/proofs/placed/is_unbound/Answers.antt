-- `text::placed::is_unbound` meets its contract.
use Rattle.text.proofs.Along.{unbound_by}
use Rattle.text.proofs.placed.is_unbound.Goals as goal

pub returns : goal.returns
returns c = unbound_by c.args.c
