-- `literal_float` meets its contract.
use native.Mathlib.Omega.{arith}
use Rattle.eval_values.specs.Floats.{bits_number}
use Rattle.eval_items.specs.LeafLaws.{literal_room, done_float}
use Rattle.eval_filters.proofs.kinds.literal_float.Goals as goal

pub overflow_add-q : goal.overflow_add-q
overflow_add-q c = omega (arith, (literal_room _ _ _ c.requires.0).two_bytes)

pub float64-requires : goal.float64-requires
float64-requires c = let f = (literal_room _ _ _ c.requires.0).of_float_lem c.requires.1 in record { at_in_bounds = omega (arith, f.0); at_value = bits_number _ f.1 }

pub returns : goal.returns
returns c = done_float _ _ _ c.requires.1 _ c.float64.ensures
