-- `compile::rooms::compile_middle` meets its contract: rooms of its own are large enough for the query, and a call of itself answers the same.
use native.Mathlib.Omega.{arith}
use Rattle.compile.proofs.rooms.+compile_middle.Goals as goal

pub compile_middle-requires : goal.compile_middle-requires
compile_middle-requires t c = (omega (arith, c.decreases, c.if-again-gt0.true), c.requires)
