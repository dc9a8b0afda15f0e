-- `regex_bytes::scalars` meets its contract. The loop's invariant: the characters of the bytes that were passed are written.
use Rattle.regex_bytes.proofs.OfBytes.{Passed}
use Rattle.regex_bytes.proofs.scalars.Given as goal

abbrev pub invariant-loop-i : goal.invariant-loop-i
invariant-loop-i l = Passed l.s l.initial.chars l.chars l.i l.n
