-- `text::bytes::word8` meets its contract. A byte of a slice is below 256.
use native.Mathlib.Omega.{arith}
use Rattle.text.proofs.Numbers.{word_one}
use Rattle.text.proofs.bytes.word8.Goals as goal

pub overflow_cast-result : goal.overflow_cast-result
overflow_cast-result c = omega (arith, c.type_inv.s c.args.at)

pub returns : goal.returns
returns c = word_one c.args.s.now c.args.at (omega arith) (c.type_inv.s c.args.at).fits
