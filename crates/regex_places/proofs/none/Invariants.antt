-- `regex_places::none` meets its contract.
use Rattle.regex_places.specs.Places.{None}
use Rattle.regex_places.proofs.none.Given as goal

abbrev pub invariant-loop-i : goal.invariant-loop-i
invariant-loop-i l = None l.i l.set
