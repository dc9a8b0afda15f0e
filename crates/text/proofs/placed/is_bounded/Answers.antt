-- `text::placed::is_bounded` meets its contract.
use Rattle.text.proofs.Along.{bounded_by}
use Rattle.text.proofs.placed.is_bounded.Goals as goal

pub returns : goal.returns
returns c = bounded_by c.args.c c.args.x
