-- `node_int` meets its contract.
use mathlib.Core.Path.{◌∙◌}
use Rattle.eval_values.specs.Values.{of_integer_lem}
use Rattle.number_integers.specs.Signs.{back}
use Rattle.eval_filters.proofs.kinds.node_int.Goals as goal

pub returns : goal.returns
returns c = of_integer_lem _ _ c.requires.0 _ c.requires.1 c.requires.2 _ (back c.integer.result c.integer.type_inv ∙ c.integer.ensures)
