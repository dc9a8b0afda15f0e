use mathlib.Core.Path.{sym, ap}
use Rattle.eval_values.specs.Means.{node_in_lem}
use Rattle.eval_values.proofs.operands.as_node.Goals as goal

-- src/operands.rt:121:1
pub returns-in-Node : goal.returns-in-Node
returns-in-Node c = ap node_in_lem (sym c.in-Node.is)
