-- `with_integer` meets its contract.
use mathlib.Core.List.{[]}
use mathlib.Core.Path.{refl, ap, ◌∙◌}
use Rattle.definition.specs.Compare.{Value}
use Rattle.number_integers.specs.Signs.{back}
use Rattle.eval_filters.specs.Numbers.{integer_is}
use Rattle.eval_filters.specs.Tests.{operands_done, compares_as}
use Rattle.eval_filters.specs.Kinds.{unlike_done}
use Rattle.eval_items.specs.LeafLaws.{done_integer}
use Rattle.eval_values.specs.declared.Operand.TheVariants.{Int, Float}
use Rattle.eval_filters.proofs.kinds.with_integer.Goals as goal

pub compare_turned-requires : goal.compare_turned-requires
compare_turned-requires c = c.node_float-a.ensures.fine []

pub returns-then-kind-eq-KIND_FLOAT : goal.returns-then-kind-eq-KIND_FLOAT
returns-then-kind-eq-KIND_FLOAT c = operands_done c.requires.ask_node _ _ (Float _) (Int _) c.node_float-a.ensures c.literal_int-b.ensures (compares_as _ _ refl (ap Value.integer (back c.literal_int-b.result c.literal_int-b.type_inv)) c.compare_turned.ensures)

pub returns : goal.returns
returns c = unlike_done c.requires.ask_node c.requires.q_value.1 (λ e. c.if-kind-eq-KIND_FLOAT.false (c.kind.ensures ∙ e)) (Int _) (integer_is _) (done_integer _ _ _ c.requires.q_value.0 _ refl) _ _ refl
