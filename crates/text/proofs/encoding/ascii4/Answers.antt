-- `text::encoding::ascii4` meets its contract.
use native.Mathlib.Omega.{arith}
use Rattle.definition.specs.Bytes.{number}
use Rattle.text.proofs.Ascii.{high_bits, ascii_at}
use Rattle.text.proofs.encoding.ascii4.Goals as goal

pub returns : goal.returns
unfolding high_bits number
returns c = ascii_at (omega arith) (λ i. (c.type_inv.s i).fits) c.word32.ensures
