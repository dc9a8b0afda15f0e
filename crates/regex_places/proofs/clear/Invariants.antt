-- `regex_places::clear` meets its contract.
use Rattle.regex_places.specs.Places.{None}
use lib.ListN.{length}
use mathlib.Core.Path.{◌≡◌}
use Rattle.regex_places.proofs.clear.Given as goal

abbrev pub invariant-loop-i : goal.invariant-loop-i
invariant-loop-i l = (length l.set ≡ length l.initial.set) × None l.i l.set
