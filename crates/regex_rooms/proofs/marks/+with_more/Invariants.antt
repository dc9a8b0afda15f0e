-- The measures and invariants of the cycle of calls {with_more}.
use Rattle.regex_rooms.proofs.marks.+with_more.Given as goal

abbrev pub decreases-with_more : goal.decreases-with_more
decreases-with_more l = l.again
