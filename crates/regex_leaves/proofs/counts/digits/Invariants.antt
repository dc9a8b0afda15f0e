-- `regex_leaves::counts::digits` meets its contract. The loop's invariant: the digits that were passed stand for the number so far.
use Rattle.regex_leaves.proofs.OfCounts.{Passed}
use Rattle.regex_leaves.proofs.counts.digits.Given as goal

abbrev pub invariant-loop-i : goal.invariant-loop-i
invariant-loop-i l = Passed l.s l.at l.i l.v
