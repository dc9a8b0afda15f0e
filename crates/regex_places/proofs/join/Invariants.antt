-- `regex_places::join` meets its contract.
use Rattle.regex_places.specs.Places.{Both}
use Rattle.regex_places.proofs.join.Given as goal

abbrev pub invariant-loop-i : goal.invariant-loop-i
invariant-loop-i l = Both l.i l.initial.set l.other l.set l.more
