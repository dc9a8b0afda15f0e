-- `text::bytes::word16` meets its contract: a word in two pieces.
use native.Mathlib.Omega.{arith}
use Rattle.text.proofs.Numbers.{word_halves}
use Rattle.text.proofs.bytes.word16.Goals as goal

pub returns : goal.returns
returns c = word_halves (omega arith) c.word8-low.ensures c.word8-high.ensures
