-- `text::placed::agrees` meets its contract.
use Rattle.text.proofs.Along.{same_answer}
use Rattle.text.proofs.placed.agrees.Goals as goal

pub returns : goal.returns
returns c = same_answer c.args.p c.args.q
