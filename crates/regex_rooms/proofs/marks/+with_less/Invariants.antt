-- The measures and invariants of the cycle of calls {with_less}.
use Rattle.regex_rooms.proofs.marks.+with_less.Given as goal

abbrev pub decreases-with_less : goal.decreases-with_less
decreases-with_less l = l.again
