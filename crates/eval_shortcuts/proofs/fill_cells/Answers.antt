-- `fill_cells` meets its contract.
use Rattle.eval_shortcuts.specs.Rows.{cells_asked}
use Rattle.eval_shortcuts.proofs.fill_cells.Goals as goal

pub fill-requires : goal.fill-requires
fill-requires c = record { ask_fill = cells_asked c.requires; column = c.requires.column }
