-- `text_quoted::writing::copy_plain` meets its contract. What is left to copy gives the whole copy.
use Rattle.text_quoted.proofs.Storing.{Copying}
use Rattle.text_quoted.proofs.writing.copy_plain.Given as goal

abbrev pub invariant-loop-i : goal.invariant-loop-i
invariant-loop-i l = Copying l.s l.at l.initial.out l.len l.out l.i
