-- `node_float` meets its contract.
use Rattle.eval_values.specs.Values.{of_float_lem}
use Rattle.eval_values.specs.Floats.{bits_number}
use borrow.Author.Rules.{rules}
use Rattle.eval_filters.proofs.kinds.node_float.Goals as goal

pub float-requires : goal.float-requires
float-requires c = record { node_bound = search rules; node_value = bits_number _ (c.requires.0.floats _ c.requires.1 c.requires.2) }

pub returns : goal.returns
returns c = of_float_lem _ _ c.requires.0 _ c.requires.1 c.requires.2 _ c.float.ensures
