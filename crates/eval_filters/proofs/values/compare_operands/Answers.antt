-- `compare_operands` meets its contract.
use native.Mathlib.Omega.{arith}
use mathlib.Core.Path.{ap}
use Rattle.definition.specs.Compare.{Value}
use Rattle.number_integers.specs.Signs.{back}
use Rattle.eval_filters.specs.Tests.{compares_as}
use Rattle.eval_filters.specs.Values.{integers_compare}
use Rattle.eval_filters.proofs.values.compare_operands.Goals as goal

pub returns-in-Int-y : goal.returns-in-Int-y
returns-in-Int-y c = integers_compare c.args.table.now c.args.text.now c.args.pool.now _ _ _ _ _ _ c.in-Int.is c.in-Int-y.is (compares_as _ _ (ap Value.integer (back c.in-Int.a (omega arith))) (ap Value.integer (back c.in-Int-y.b (omega arith))) c.compare_ints.ensures)
