-- `rows::stands` meets its contract.
use native.Mathlib.Omega.{arith}
use Rattle.eval_rows.specs.Columns.{stands_there, stands_none}
use Rattle.eval_rows.proofs.rows.stands.Goals as goal

pub offset_bounds-list-k : goal.offset_bounds-list-k
offset_bounds-list-k c = omega (arith, c.requires.1 c.if-in_cells.true)

pub bounds-list-k : goal.bounds-list-k
bounds-list-k c = c.requires.1 c.if-in_cells.true

pub returns-then-in_cells : goal.returns-then-in_cells
returns-then-in_cells c = stands_there _ c.if-in_cells.true

pub returns : goal.returns
returns c = stands_none _ c.if-in_cells.false
