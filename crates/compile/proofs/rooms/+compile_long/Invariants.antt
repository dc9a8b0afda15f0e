-- The measure of `compile::rooms::compile_long`: `again`.
use Rattle.compile.proofs.rooms.+compile_long.Given as goal

abbrev pub decreases-compile_long : goal.decreases-compile_long
decreases-compile_long l = l.again
