-- `pick` meets its contract.
use mathlib.Core.Path.{sym, ◌∙◌}
use Rattle.eval_shortcuts.proofs.several.pick.Goals as goal

pub kind-requires : goal.kind-requires
kind-requires c = c.requires.ask_pick.node_in

pub pick_members-requires : goal.pick_members-requires
pick_members-requires c = record { ask_pick = c.requires.ask_pick; node_value = (sym c.kind.ensures ∙ c.if-kind-eq-KIND_MAP.true, c.requires.n_in_bounds) }

pub shape_of-near-then-kind-eq-KIND_MAP : goal.shape_of-near-then-kind-eq-KIND_MAP
shape_of-near-then-kind-eq-KIND_MAP c = c.pick_members.auto.near

pub shape_of-list-then-kind-eq-KIND_MAP : goal.shape_of-list-then-kind-eq-KIND_MAP
shape_of-list-then-kind-eq-KIND_MAP c = c.pick_members.auto.list

pub returns-then-kind-eq-KIND_MAP : goal.returns-then-kind-eq-KIND_MAP
returns-then-kind-eq-KIND_MAP c = c.pick_members.ensures

pub pick_elements-requires : goal.pick_elements-requires
pick_elements-requires c = record { ask_pick = c.requires.ask_pick; fact = λ z. c.if-kind-eq-KIND_MAP.false (c.kind.ensures ∙ z) }

pub shape_of-list : goal.shape_of-list
shape_of-list c = c.pick_elements.auto.list

pub returns : goal.returns
returns c = c.pick_elements.ensures
