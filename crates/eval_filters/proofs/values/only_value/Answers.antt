-- `only_value` meets its contract.
use native.Mathlib.Omega.{arith}
use Rattle.eval_filters.specs.Values.{only_one, only_null}
use Rattle.eval_filters.proofs.values.only_value.Goals as goal

pub get_value-requires : goal.get_value-requires
get_value-requires c = (c.requires.tab, c.requires.inside (omega arith))

pub returns-then-n-eq1 : goal.returns-then-n-eq1
returns-then-n-eq1 c = only_one _ _ _ _ c.if-n-eq1.true _ c.get_value.ensures

pub returns : goal.returns
returns c = only_null _ _ _ _ c.if-n-eq1.false
