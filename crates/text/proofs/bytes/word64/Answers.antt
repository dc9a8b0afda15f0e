-- `text::bytes::word64` meets its contract: a word in two pieces.
use native.Mathlib.Omega.{arith}
use Rattle.text.proofs.Numbers.{word_halves}
use Rattle.text.proofs.bytes.word64.Goals as goal

pub returns : goal.returns
returns c = word_halves (omega arith) c.word32-low.ensures c.word32-high.ensures
