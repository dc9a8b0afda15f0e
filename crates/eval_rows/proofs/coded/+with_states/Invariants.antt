-- The measures and invariants of the cycle of calls {with_states}.
use Rattle.eval_rows.proofs.coded.+with_states.Given as goal

abbrev pub decreases-with_states : goal.decreases-with_states
decreases-with_states l = l.again
