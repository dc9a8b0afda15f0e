-- `select::select_middle` meets its contract: rooms of its own are large enough for the query, and a call of itself answers the same.
use native.Mathlib.Omega.{arith}
use Rattle.select.proofs.+select_middle.Goals as goal

pub select_middle-requires : goal.select_middle-requires
select_middle-requires t c = (omega (arith, c.decreases, c.if-again-gt0.true), c.requires)
