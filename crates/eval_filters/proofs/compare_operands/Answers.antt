-- `compare_operands` meets its contract.
use Rattle.eval_filters.specs.Tests.{operands_done}
use Rattle.eval_filters.proofs.compare_operands.Goals as goal

pub compare_values-requires : goal.compare_values-requires
compare_values-requires c = record { accepted = c.requires.tab; pair = record { first = c.get_value-x.ensures.fine _; second = (c.literal-y.ensures c.requires.literal.l c.requires.literal.k c.requires.literal.holds c.requires.literal.pool c.requires.literal.right).fine _ _ } }

pub returns : goal.returns
returns c = operands_done c.requires _ _ _ _ c.get_value-x.ensures c.literal-y.ensures c.compare_values.ensures
