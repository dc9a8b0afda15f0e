-- The measures and invariants of the cycle of calls {with_few}.
use Rattle.eval_rows.proofs.coded.+with_few.Given as goal

abbrev pub decreases-with_few : goal.decreases-with_few
decreases-with_few l = l.again
