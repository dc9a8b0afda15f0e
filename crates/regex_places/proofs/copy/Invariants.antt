-- `regex_places::copy` meets its contract.
use Rattle.regex_places.specs.Places.{Same}
use Rattle.regex_places.proofs.copy.Given as goal

abbrev pub invariant-loop-i : goal.invariant-loop-i
invariant-loop-i l = Same l.i l.from l.initial.to l.to
