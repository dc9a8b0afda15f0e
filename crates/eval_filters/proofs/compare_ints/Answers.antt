-- `compare_ints` meets its contract: four operators by the order of the two numbers, the others by the order the other way round.
use mir.Syntax.{w64}
use mir.ValLaws.{to_z-of_z}
use Rattle.eval_filters.specs.Numbers.{integer_at, numbers_low, numbers_high}
use Rattle.eval_filters.proofs.compare_ints.Goals as goal

pub returns-then-op-le-LE : goal.returns-then-op-le-LE
returns-then-op-le-LE c = numbers_low (integer_at _ _ (to_z-of_z w64 c.args.a c.ranges.a)) (integer_at _ _ (to_z-of_z w64 c.args.b c.ranges.b)) _ c.if-op-le-LE.true _ _ c.compare_i64.ensures c.says.ensures

pub returns : goal.returns
returns c = numbers_high (integer_at _ _ (to_z-of_z w64 c.args.b c.ranges.b)) (integer_at _ _ (to_z-of_z w64 c.args.a c.ranges.a)) _ c.if-op-le-LE.false _ _ c.compare_i64-2.ensures c.says-2.ensures
