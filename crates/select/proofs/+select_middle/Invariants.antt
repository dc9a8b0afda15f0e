-- The measure of `select::select_middle`: `again`.
use Rattle.select.proofs.+select_middle.Given as goal

abbrev pub decreases-select_middle : goal.decreases-select_middle
decreases-select_middle l = l.again
