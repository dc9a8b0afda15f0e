-- The measure of `select::select_long`: `again`.
use Rattle.select.proofs.+select_long.Given as goal

abbrev pub decreases-select_long : goal.decreases-select_long
decreases-select_long l = l.again
