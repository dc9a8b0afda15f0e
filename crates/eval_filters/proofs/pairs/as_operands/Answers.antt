-- `as_operands` meets its contract.
use Rattle.eval_filters.specs.Pairs.{nodes_done}
use Rattle.eval_filters.proofs.pairs.as_operands.Goals as goal

pub compare_values-requires : goal.compare_values-requires
compare_values-requires c = record { accepted = c.requires.tab; pair = record { first = c.get_value-x.ensures.fine _; second = c.get_value-y.ensures.fine _ } }

pub returns : goal.returns
returns c = nodes_done c.requires _ _ _ _ _ c.get_value-x.ensures c.get_value-y.ensures c.compare_values.ensures
