-- `get_by_index` meets its contract: the element at the place that the index has, or none.
use native.Mathlib.Omega.{arith}
use mathlib.Core.Path.{sym, ◌∙◌, refl}
use Rattle.eval_items.proofs.Signs.{ranged}
use Rattle.eval_items.specs.LeafLaws.{index_asked, index_inside, few_children, index_else, index_found, index_nothing, index_room}
use Rattle.number_integers.specs.Signs.{back}
use Rattle.eval_items.proofs.leaves.get_by_index.Goals as goal

pub kind-requires : goal.kind-requires
kind-requires c = c.requires.node_in

pub returns-then-kind-ne-KIND_LIST : goal.returns-then-kind-ne-KIND_LIST
returns-then-kind-ne-KIND_LIST c = index_else c.requires (λ z. c.if-kind-ne-KIND_LIST.true (c.kind.ensures ∙ z))

pub first_child-first-requires : goal.first_child-first-requires
first_child-first-requires c = c.requires.node_in

pub child_count-count-requires : goal.child_count-count-requires
child_count-count-requires c = c.requires.node_in

pub overflow_add-p : goal.overflow_add-p
overflow_add-p c = omega (arith, (index_asked c.requires).bound)

pub int64-i-requires : goal.int64-i-requires
int64-i-requires c = omega (arith, (index_asked c.requires).bound)

pub index_place-requires : goal.index_place-requires
index_place-requires c = (omega (arith, c.child_count-count.ensures, few_children c.requires), ranged c.int64-i.result _ c.int64-i.type_inv c.int64-i.ensures (index_inside c.requires))

pub overflow_add-result : goal.overflow_add-result
overflow_add-result c = omega (arith, index_room c.requires _ _ c.first_child-first.ensures c.child_count-count.ensures _ _ c.in_ok-k.ensures _ refl)

pub returns : goal.returns
returns c =
    index_found c.requires _ _ c.first_child-first.ensures c.child_count-count.ensures _ _ c.in_ok-k.ensures
    (sym c.kind.ensures ∙ c.if-kind-ne-KIND_LIST.false) (back c.int64-i.result c.int64-i.type_inv ∙ c.int64-i.ensures) _ refl

pub returns-in_err-k : goal.returns-in_err-k
returns-in_err-k c =
    rw c.from_residual.ensures (index_nothing c.requires _ _ c.first_child-first.ensures c.child_count-count.ensures _ _ c.in_err-k.ensures
    (sym c.kind.ensures ∙ c.if-kind-ne-KIND_LIST.false) (back c.int64-i.result c.int64-i.type_inv ∙ c.int64-i.ensures) refl)
