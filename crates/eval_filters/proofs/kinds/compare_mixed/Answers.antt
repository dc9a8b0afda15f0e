-- `compare_mixed` meets its contract.
use mir.Syntax.{w64}
use mir.ValLaws.{to_z-of_z}
use Rattle.eval_filters.specs.Numbers.{integer_at, float_is, numbers_low, numbers_high}
use Rattle.eval_filters.proofs.kinds.compare_mixed.Goals as goal

pub returns-then-op-le-LE : goal.returns-then-op-le-LE
returns-then-op-le-LE c = numbers_low (integer_at _ _ (to_z-of_z w64 c.args.a c.ranges.a)) (float_is _) _ c.if-op-le-LE.true _ _ c.compare_i64_num.ensures c.says.ensures

pub returns : goal.returns
returns c = numbers_high (float_is _) (integer_at _ _ (to_z-of_z w64 c.args.a c.ranges.a)) _ c.if-op-le-LE.false _ _ c.compare_num_i64.ensures c.says-2.ensures
