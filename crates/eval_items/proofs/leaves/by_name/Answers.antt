-- `by_name` meets its contract: the member that is found under the name, or none.
use native.Mathlib.Omega.{arith}
use mathlib.Core.Path.{sym, ◌∙◌}
use Rattle.eval_items.specs.LeafLaws.{name_asked, name_else, name_members, name_found}
use Rattle.eval_items.proofs.leaves.by_name.Goals as goal

pub kind-requires : goal.kind-requires
kind-requires c = c.requires.node_in

pub returns-then-kind-ne-KIND_MAP : goal.returns-then-kind-ne-KIND_MAP
returns-then-kind-ne-KIND_MAP c = name_else c.requires (λ z. c.if-kind-ne-KIND_MAP.true (c.kind.ensures ∙ z))

pub first_child-first-requires : goal.first_child-first-requires
first_child-first-requires c = c.requires.node_in

pub child_count-count-requires : goal.child_count-count-requires
child_count-count-requires c = c.requires.node_in

pub overflow_add-p : goal.overflow_add-p
overflow_add-p c = omega (arith, (name_asked c.requires).stands.bound)

pub word16-start-requires : goal.word16-start-requires
word16-start-requires c = omega (arith, (name_asked c.requires).stands.bound)

pub overflow_add-p-2 : goal.overflow_add-p-2
overflow_add-p-2 c = omega (arith, (name_asked c.requires).stands.bound)

pub word16-size-requires : goal.word16-size-requires
word16-size-requires c = omega (arith, (name_asked c.requires).stands.bound)

pub find_short-requires : goal.find_short-requires
find_short-requires c =
    let d = (name_asked c.requires).stands in
    record { members = name_members c.requires (sym c.kind.ensures ∙ c.if-kind-ne-KIND_MAP.false) _ _ c.first_child-first.ensures c.child_count-count.ensures; n_in_bounds = omega (arith, c.word16-start.ensures.is, c.word16-size.ensures.is, d.start, d.size, d.inside); le_n = c.is_short.ensures c.if-is_short.true }

pub returns-then-is_short : goal.returns-then-is_short
returns-then-is_short c =
    name_found c.requires (sym c.kind.ensures ∙ c.if-kind-ne-KIND_MAP.false) _ _ c.first_child-first.ensures c.child_count-count.ensures
    _ _ c.word16-start.ensures.is c.word16-size.ensures.is _ c.find_short.ensures

pub get_by_key-requires : goal.get_by_key-requires
get_by_key-requires c =
    let d = (name_asked c.requires).stands in
    record { members = name_members c.requires (sym c.kind.ensures ∙ c.if-kind-ne-KIND_MAP.false) _ _ c.first_child-first.ensures c.child_count-count.ensures; n_in_bounds = omega (arith, c.word16-start.ensures.is, c.word16-size.ensures.is, d.start, d.size, d.inside) }

pub returns : goal.returns
returns c =
    name_found c.requires (sym c.kind.ensures ∙ c.if-kind-ne-KIND_MAP.false) _ _ c.first_child-first.ensures c.child_count-count.ensures
    _ _ c.word16-start.ensures.is c.word16-size.ensures.is _ c.get_by_key.ensures
