-- `select_near` meets its contract.
use native.Mathlib.Omega.{arith}
use Rattle.eval_shortcuts.specs.FlatLaws.{selected_in, selected_as}
use Rattle.eval_shortcuts.proofs.flats.select_near.Goals as goal

pub overflow_add-result : goal.overflow_add-result
overflow_add-result c = omega (arith, selected_in c.requires (c.name_near.ensures c.if-name_near.true), c.first_child.ensures)

pub returns-then-name_near : goal.returns-then-name_near
returns-then-name_near c = selected_as _ _ _ c.first_child.ensures (c.name_near.ensures c.if-name_near.true)
