-- `first_named` meets its contract: the member that is found under the name, or none.
use native.Mathlib.Omega.{arith}
use mathlib.Core.Path.{sym, ◌∙◌}
use Rattle.eval_items.specs.LeafLaws.{name_asked, name_else, name_members, name_found}
use Rattle.eval_items.proofs.leaves.first_named.Goals as goal

pub kind-requires : goal.kind-requires
kind-requires c = c.requires.ask_one.node_in

pub returns-then-kind-ne-KIND_MAP : goal.returns-then-kind-ne-KIND_MAP
returns-then-kind-ne-KIND_MAP c = name_else c.requires.ask_one (λ z. c.if-kind-ne-KIND_MAP.true (c.kind.ensures ∙ z))

pub first_child-first-requires : goal.first_child-first-requires
first_child-first-requires c = c.requires.ask_one.node_in

pub child_count-count-requires : goal.child_count-count-requires
child_count-count-requires c = c.requires.ask_one.node_in

pub find_short-requires : goal.find_short-requires
find_short-requires c =
    let d = (name_asked c.requires.ask_one).stands in
    record { members = name_members c.requires.ask_one (sym c.kind.ensures ∙ c.if-kind-ne-KIND_MAP.false) _ _ c.first_child-first.ensures c.child_count-count.ensures; n_in_bounds = omega (arith, c.requires.start_value.0, c.requires.start_value.1, d.start, d.size, d.inside); le_n = c.is_short.ensures c.if-is_short.true }

pub returns-then-is_short : goal.returns-then-is_short
returns-then-is_short c =
    name_found c.requires.ask_one (sym c.kind.ensures ∙ c.if-kind-ne-KIND_MAP.false) _ _ c.first_child-first.ensures c.child_count-count.ensures
    _ _ c.requires.start_value.0 c.requires.start_value.1 _ c.find_short.ensures

pub get_by_key-requires : goal.get_by_key-requires
get_by_key-requires c =
    let d = (name_asked c.requires.ask_one).stands in
    record { members = name_members c.requires.ask_one (sym c.kind.ensures ∙ c.if-kind-ne-KIND_MAP.false) _ _ c.first_child-first.ensures c.child_count-count.ensures; n_in_bounds = omega (arith, c.requires.start_value.0, c.requires.start_value.1, d.start, d.size, d.inside) }

pub returns : goal.returns
returns c =
    name_found c.requires.ask_one (sym c.kind.ensures ∙ c.if-kind-ne-KIND_MAP.false) _ _ c.first_child-first.ensures c.child_count-count.ensures
    _ _ c.requires.start_value.0 c.requires.start_value.1 _ c.get_by_key.ensures
