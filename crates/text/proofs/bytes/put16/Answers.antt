-- `text::bytes::put16` meets its contract: a number stored in two pieces.
use Rattle.text.proofs.Numbers.{wrote_halves}
use Rattle.text.proofs.bytes.put16.Goals as goal

pub returns : goal.returns
returns c = wrote_halves 1 1 c.args.n c.put8.ensures c.put8-2.ensures
