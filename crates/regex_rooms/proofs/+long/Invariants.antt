-- The measures and invariants of the cycle of calls {long}.
use Rattle.regex_rooms.proofs.+long.Given as goal

abbrev pub decreases-long : goal.decreases-long
decreases-long l = l.again
