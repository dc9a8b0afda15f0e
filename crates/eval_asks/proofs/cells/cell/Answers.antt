-- `cells::cell` meets its contract.
use mathlib.Core.Path.{sym, ◌∙◌}
use Rattle.eval_asks.specs.Cells.{cell_yes, cell_no}
use Rattle.eval_asks.proofs.cells.cell.Goals as goal

pub returns-then-acc : goal.returns-then-acc
returns-then-acc c = let e = cell_yes _ in (e.0 ∙ sym c.if-acc.true, e.1)

pub returns : goal.returns
returns c = let e = cell_no _ c.requires in (e.0 ∙ sym c.if-acc.false, e.1)
