-- `text::blocks::block_as` meets its contract. The loop's invariant: what the least numbers, the greatest and the answer so far say of the bytes that were
-- tested.
use Rattle.text.proofs.Lengths.{Tested}
use Rattle.text.proofs.blocks.block_as.Given as goal

abbrev pub invariant-loop-i : goal.invariant-loop-i
invariant-loop-i l = Tested l.kind l.s l.at l.even l.low l.top l.right l.i
