-- `text::parts::copy_part` meets its contract: one more byte of the part is stored at each turn.
use native.Mathlib.Omega.{arith}
use Rattle.text.proofs.Numbers.{copy_step}
use Rattle.text.proofs.parts.copy_part.Goals as goal

pub loop-i-preserved : goal.loop-i-preserved
loop-i-preserved c = rw c.loop-i.invariant (copy_step c.args.src.now c.args.dst.now c.args.from c.args.at c.loop-i.i (omega arith))
