-- `select::select_long` meets its contract: rooms of its own are large enough for the query, and a call of itself answers the same.
use native.Mathlib.Omega.{arith}
use Rattle.compile.proofs.Answers.{sizes_for_all}
use Rattle.select.proofs.+select_long.Goals as goal

pub select_long-requires : goal.select_long-requires
select_long-requires t c = (omega (arith, c.decreases, c.if-again-gt0.true), c.requires)

pub select_within-requires : goal.select_within-requires
select_within-requires t c = (sizes_for_all _ c.requires, c.requires)
