-- `same_constant` meets its contract.
use native.Mathlib.Omega.{arith}
use mathlib.Core.Path.{refl}
use Rattle.eval_items.specs.LeafLaws.{literal_room}
use Rattle.eval_filters.specs.Kinds.{constant_done}
use Rattle.eval_filters.proofs.kinds.same_constant.Goals as goal

pub overflow_add-q : goal.overflow_add-q
overflow_add-q c = omega (arith, (literal_room _ _ _ c.requires.ask_node.literal).two_bytes)

pub bounds-plan-q : goal.bounds-plan-q
bounds-plan-q c = omega (arith, (literal_room _ _ _ c.requires.ask_node.literal).two_bytes)

pub returns : goal.returns
returns c = constant_done c.requires.ask_node c.requires.q_value _ _ refl c.kind-kind.ensures _ c.is_constant.ensures
