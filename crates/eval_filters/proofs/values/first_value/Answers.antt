-- `first_value` meets its contract.
use Rattle.eval_filters.specs.Values.{first_one, first_nothing}
use Rattle.eval_filters.proofs.values.first_value.Goals as goal

pub get_value-requires : goal.get_value-requires
get_value-requires c = (c.requires.tab, c.requires.inside c.if-n-gt0.true)

pub returns-then-n-gt0 : goal.returns-then-n-gt0
returns-then-n-gt0 c = first_one _ _ _ _ c.if-n-gt0.true _ c.get_value.ensures

pub returns : goal.returns
returns c = first_nothing _ _ _ _ c.if-n-gt0.false
