-- The measure of `compile::rooms::compile_middle`: `again`.
use Rattle.compile.proofs.rooms.+compile_middle.Given as goal

abbrev pub decreases-compile_middle : goal.decreases-compile_middle
decreases-compile_middle l = l.again
