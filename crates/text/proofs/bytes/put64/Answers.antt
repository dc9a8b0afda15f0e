-- `text::bytes::put64` meets its contract: a number stored in two pieces.
use Rattle.text.proofs.Numbers.{wrote_halves}
use Rattle.text.proofs.bytes.put64.Goals as goal

pub returns : goal.returns
returns c = wrote_halves 4 4 c.args.n c.put32.ensures c.put32-2.ensures
