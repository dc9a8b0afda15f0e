-- `number_digits::digits` meets its contract. The loop's invariant: what was passed are digits, and they write `acc`.
use Rattle.number_digits.proofs.Loops.{Passed}
use Rattle.number_digits.proofs.digits.Given as goal

abbrev pub invariant-loop-i : goal.invariant-loop-i
invariant-loop-i l = Passed l.s l.from l.start l.acc l.i
