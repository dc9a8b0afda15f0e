use mathlib.Core.Path.{sym, ap}
use Rattle.eval_values.specs.Means.{is_that}
use Rattle.eval_values.proofs.operands.is_bool.Goals as goal

-- src/operands.rt:105:1
pub returns-in-Bool : goal.returns-in-Bool
returns-in-Bool c = ap (is_that c.args.b) (sym c.in-Bool.is)
