-- `with_float` meets its contract.
use mathlib.Core.List.{[]}
use mathlib.Core.Path.{refl, ap, ◌∙◌}
use Rattle.definition.specs.Compare.{Value}
use Rattle.number_integers.specs.Signs.{back}
use Rattle.eval_filters.specs.Numbers.{float_is}
use Rattle.eval_filters.specs.Tests.{operands_done, compares_as}
use Rattle.eval_filters.specs.Kinds.{unlike_done}
use Rattle.eval_items.specs.LeafLaws.{done_float}
use Rattle.eval_values.specs.declared.Operand.TheVariants.{Int, Float}
use Rattle.eval_filters.proofs.kinds.with_float.Goals as goal

pub compare_floats-requires : goal.compare_floats-requires
compare_floats-requires c = (c.node_float-a.ensures.fine [], (c.literal_float-b.ensures c.requires.ask_node.literal.l c.requires.ask_node.literal.k c.requires.ask_node.literal.holds c.requires.ask_node.literal.pool c.requires.ask_node.literal.right).fine [] [])

pub returns-then-kind-eq-KIND_FLOAT : goal.returns-then-kind-eq-KIND_FLOAT
returns-then-kind-eq-KIND_FLOAT c = operands_done c.requires.ask_node _ _ (Float _) (Float _) c.node_float-a.ensures c.literal_float-b.ensures c.compare_floats.ensures

pub compare_mixed-requires : goal.compare_mixed-requires
compare_mixed-requires c = (c.literal_float-b-then-kind-eq-KIND_INTEGER.ensures c.requires.ask_node.literal.l c.requires.ask_node.literal.k c.requires.ask_node.literal.holds c.requires.ask_node.literal.pool c.requires.ask_node.literal.right).fine [] []

pub returns-then-kind-eq-KIND_INTEGER : goal.returns-then-kind-eq-KIND_INTEGER
returns-then-kind-eq-KIND_INTEGER c = operands_done c.requires.ask_node _ _ (Int _) (Float _) c.node_int-a.ensures c.literal_float-b-then-kind-eq-KIND_INTEGER.ensures (compares_as _ _ (ap Value.integer (back c.node_int-a.result c.node_int-a.type_inv)) refl c.compare_mixed.ensures)

pub returns : goal.returns
returns c = unlike_done c.requires.ask_node (λ e. c.if-kind-eq-KIND_INTEGER.false (c.kind-kind.ensures ∙ e)) (λ e. c.if-kind-eq-KIND_FLOAT.false (c.kind-kind.ensures ∙ e)) (Float _) (float_is _) (done_float _ _ _ c.requires.q_value _ refl) _ _ refl
