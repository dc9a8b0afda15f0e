-- `text::bytes::put32` meets its contract: a number stored in two pieces.
use Rattle.text.proofs.Numbers.{wrote_halves}
use Rattle.text.proofs.bytes.put32.Goals as goal

pub returns : goal.returns
returns c = wrote_halves 2 2 c.args.n c.put16.ensures c.put16-2.ensures
