-- `compare_integers` meets its contract.
use Rattle.eval_filters.specs.Tests.{integers_done}
use Rattle.eval_items.specs.LeafLaws.{literal_room}
use native.Mathlib.Omega.{arith}
use mathlib.Core.Path.{◌∙◌}
use Rattle.number_integers.specs.Signs.{back}
use Rattle.eval_filters.proofs.compare_integers.Goals as goal

pub overflow_add-q : goal.overflow_add-q
overflow_add-q c = omega (arith, (literal_room c.args.plan.now c.args.pool.now c.args.q c.requires.ask_node.literal).two_bytes)

pub int64-b-requires : goal.int64-b-requires
int64-b-requires c = omega (arith, (literal_room c.args.plan.now c.args.pool.now c.args.q c.requires.ask_node.literal).of_integer_lem c.requires.q_value.0)

pub returns : goal.returns
returns c = integers_done c.requires.ask_node _ _ c.requires.q_value.0 c.requires.q_value.1 _ _ (back c.integer-a.result c.integer-a.type_inv ∙ c.integer-a.ensures) (back c.int64-b.result c.int64-b.type_inv ∙ c.int64-b.ensures) c.compare_ints.ensures
