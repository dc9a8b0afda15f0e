-- `pick_members` meets its contract: what is left of the selectors gives the whole.
use mathlib.Core.Path.{refl, ◌∙◌}
use native.Mathlib.Omega.{arith}
use Rattle.eval_shortcuts.specs.Picked.{pick_start, pick_done, pick_room, pick_low, pick_high, pick_bound, pick_one, pick_index, pick_next}
use Rattle.eval_shortcuts.proofs.several.pick_members.Goals as goal

pub first_child-first-requires : goal.first_child-first-requires
first_child-first-requires c = c.requires.ask_pick.node_in

pub child_count-count-requires : goal.child_count-count-requires
child_count-count-requires c = c.requires.ask_pick.node_in

pub loop-m-init : goal.loop-m-init
loop-m-init c = (refl, pick_start c.requires.ask_pick)

pub bounds-plan-q : goal.bounds-plan-q
bounds-plan-q c = omega (arith, pick_bound c.requires.ask_pick c.loop-m.invariant.1 c.loop-m-test.true)

pub put_member-a-requires : goal.put_member-a-requires
put_member-a-requires c = record { ask_one = pick_one c.requires.ask_pick c.loop-m.invariant.1 c.loop-m-test.true 5 c.if-plan-q-eq-NAME.true; below = ((c.first_child-first.ensures, c.child_count-count.ensures), c.requires.node_value.0); room = (pick_room c.requires.ask_pick c.loop-m.invariant.1, omega (arith, c.loop-m.invariant.0, c.requires.node_value.1, c.loop-m-test.true)) }

pub overflow_add-q : goal.overflow_add-q
overflow_add-q c = omega (arith, pick_bound c.requires.ask_pick c.loop-m.invariant.1 c.loop-m-test.true, c.if-plan-q-eq-NAME.true, c.requires.ask_pick.given.few_p)

pub loop-m-preserved-then-plan-q-eq-NAME : goal.loop-m-preserved-then-plan-q-eq-NAME
loop-m-preserved-then-plan-q-eq-NAME c = (c.put_member-a.auto.near ∙ c.loop-m.invariant.0, pick_next c.requires.ask_pick c.loop-m.invariant.1 c.loop-m-test.true c.put_member-a.ensures c.put_member-a.auto.list (omega (arith, c.if-plan-q-eq-NAME.true)))

pub overflow_add-q-in-loop-m : goal.overflow_add-q-in-loop-m
overflow_add-q-in-loop-m c = omega (arith, pick_bound c.requires.ask_pick c.loop-m.invariant.1 c.loop-m-test.true, pick_low c.requires.ask_pick c.loop-m.invariant.1 c.loop-m-test.true, pick_high c.requires.ask_pick c.loop-m.invariant.1 c.loop-m-test.true, c.if-plan-q-eq-NAME.false, c.requires.ask_pick.given.few_p)

pub loop-m-preserved : goal.loop-m-preserved
loop-m-preserved c =
    let low = pick_low c.requires.ask_pick c.loop-m.invariant.1 c.loop-m-test.true in
    let high = pick_high c.requires.ask_pick c.loop-m.invariant.1 c.loop-m-test.true in
    (c.loop-m.invariant.0, pick_next c.requires.ask_pick c.loop-m.invariant.1 c.loop-m-test.true (pick_index c.requires.ask_pick c.loop-m.invariant.1 c.loop-m-test.true c.requires.node_value.0 (omega (arith, low, high, c.if-plan-q-eq-NAME.false))) refl (omega (arith, low, high, c.if-plan-q-eq-NAME.false)))

pub shape_of-near : goal.shape_of-near
shape_of-near c = c.loop-m.invariant.0

pub shape_of-list : goal.shape_of-list
shape_of-list c = c.loop-m.invariant.1.same

pub returns : goal.returns
returns c = pick_done c.requires.ask_pick c.loop-m.invariant.1 c.loop-m-test.false
