-- The measures and invariants of the cycle of calls {long}.
use Rattle.eval_rows.proofs.+long.Given as goal

abbrev pub decreases-long : goal.decreases-long
decreases-long l = l.again
