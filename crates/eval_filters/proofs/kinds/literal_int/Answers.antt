-- `literal_int` meets its contract.
use native.Mathlib.Omega.{arith}
use mathlib.Core.Path.{◌∙◌}
use Rattle.eval_items.specs.LeafLaws.{literal_room, done_integer}
use Rattle.number_integers.specs.Signs.{back}
use Rattle.eval_filters.proofs.kinds.literal_int.Goals as goal

pub overflow_add-q : goal.overflow_add-q
overflow_add-q c = omega (arith, (literal_room _ _ _ c.requires.0).two_bytes)

pub int64-requires : goal.int64-requires
int64-requires c = omega (arith, (literal_room _ _ _ c.requires.0).of_integer_lem c.requires.1)

pub returns : goal.returns
returns c = done_integer _ _ _ c.requires.1 _ (back c.int64.result c.int64.type_inv ∙ c.int64.ensures)
