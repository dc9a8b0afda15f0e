-- `compare_floats` meets its contract.
use Rattle.eval_filters.specs.Numbers.{float_is, numbers_low, numbers_high}
use Rattle.eval_filters.proofs.kinds.compare_floats.Goals as goal

pub returns-then-op-le-LE : goal.returns-then-op-le-LE
returns-then-op-le-LE c = numbers_low (float_is _) (float_is _) _ c.if-op-le-LE.true _ _ c.compare_nums.ensures c.says.ensures

pub returns : goal.returns
returns c = numbers_high (float_is _) (float_is _) _ c.if-op-le-LE.false _ _ c.compare_nums-2.ensures c.says-2.ensures
