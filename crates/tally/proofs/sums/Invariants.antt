-- `tally::sums` meets its contract: the sums stand below the present place.
use Rattle.tally.proofs.Laws.{Adding}
use Rattle.tally.proofs.sums.Given as goal

abbrev pub invariant-loop-i : goal.invariant-loop-i
invariant-loop-i l = Adding l.more l.counts l.all l.i
