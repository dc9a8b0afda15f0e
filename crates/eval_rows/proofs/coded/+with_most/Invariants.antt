-- The measures and invariants of the cycle of calls {with_most}.
use Rattle.eval_rows.proofs.coded.+with_most.Given as goal

abbrev pub decreases-with_most : goal.decreases-with_most
decreases-with_most l = l.again
