-- The measures and invariants of the cycle of calls {short}.
use Rattle.eval_rows.proofs.+short.Given as goal

abbrev pub decreases-short : goal.decreases-short
decreases-short l = l.again
