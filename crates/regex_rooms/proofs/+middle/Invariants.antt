-- The measures and invariants of the cycle of calls {middle}.
use Rattle.regex_rooms.proofs.+middle.Given as goal

abbrev pub decreases-middle : goal.decreases-middle
decreases-middle l = l.again
