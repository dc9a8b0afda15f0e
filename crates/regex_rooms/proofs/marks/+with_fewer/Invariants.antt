-- The measures and invariants of the cycle of calls {with_fewer}.
use Rattle.regex_rooms.proofs.marks.+with_fewer.Given as goal

abbrev pub decreases-with_fewer : goal.decreases-with_fewer
decreases-with_fewer l = l.again
