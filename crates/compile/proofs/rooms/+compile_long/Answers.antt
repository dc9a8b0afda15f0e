-- `compile::rooms::compile_long` meets its contract: rooms of its own are large enough for the query, and a call of itself answers the same.
use native.Mathlib.Omega.{arith}
use Rattle.compile.proofs.Answers.{sizes_for_all}
use Rattle.compile.proofs.rooms.+compile_long.Goals as goal

pub compile_long-requires : goal.compile_long-requires
compile_long-requires t c = (omega (arith, c.decreases, c.if-again-gt0.true), c.requires)

pub compile_within-requires : goal.compile_within-requires
compile_within-requires t c = (sizes_for_all _ c.requires, c.requires)
