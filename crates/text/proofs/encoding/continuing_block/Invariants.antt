-- `text::encoding::continuing_block` meets its contract. The loop's invariant: the sum is that of the words so far. The measure is what is left.
use Prim.Native.Nat.{◌*◌}
use Rattle.definition.specs.Bytes.{part}
use Rattle.text.specs.Continuing.{Continuing}
use Rattle.text.proofs.encoding.continuing_block.Given as goal

abbrev pub invariant-loop-i : goal.invariant-loop-i
invariant-loop-i l = Continuing (part l.s l.at (8 * l.i)) l.i l.sum
