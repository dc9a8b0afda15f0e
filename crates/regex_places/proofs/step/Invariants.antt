-- `regex_places::step` meets its contract.
use Rattle.regex_places.specs.Places.{Moving}
use Rattle.regex_places.proofs.step.Given as goal

abbrev pub invariant-loop-i : goal.invariant-loop-i
invariant-loop-i l = Moving l.code l.at l.text l.initial.set l.set l.i
