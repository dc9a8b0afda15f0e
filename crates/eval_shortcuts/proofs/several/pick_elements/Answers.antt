-- `pick_elements` meets its contract: what is left of the selectors gives the whole.
use mathlib.Core.Path.{refl}
use native.Mathlib.Omega.{arith}
use Rattle.eval_shortcuts.specs.Picked.{pick_start, pick_done, pick_room, pick_low, pick_high, pick_bound, pick_one, pick_name, pick_next}
use Rattle.eval_shortcuts.proofs.several.pick_elements.Goals as goal

pub loop-init : goal.loop-init
loop-init c = pick_start c.requires.ask_pick

pub bounds-plan-q : goal.bounds-plan-q
bounds-plan-q c = omega (arith, pick_bound c.requires.ask_pick c.loop.invariant c.loop-test.true)

pub put_element-a-requires : goal.put_element-a-requires
put_element-a-requires c = record { ask_one = pick_one c.requires.ask_pick c.loop.invariant c.loop-test.true 6 c.if-plan-q-eq-INDEX.true; room = pick_room c.requires.ask_pick c.loop.invariant }

pub overflow_add-q : goal.overflow_add-q
overflow_add-q c = omega (arith, pick_bound c.requires.ask_pick c.loop.invariant c.loop-test.true, c.if-plan-q-eq-INDEX.true, c.requires.ask_pick.given.few_p)

pub loop-preserved-then-plan-q-eq-INDEX : goal.loop-preserved-then-plan-q-eq-INDEX
loop-preserved-then-plan-q-eq-INDEX c = pick_next c.requires.ask_pick c.loop.invariant c.loop-test.true c.put_element-a.ensures c.put_element-a.auto.list (omega (arith, c.if-plan-q-eq-INDEX.true))

pub overflow_add-q-in-loop : goal.overflow_add-q-in-loop
overflow_add-q-in-loop c = omega (arith, pick_bound c.requires.ask_pick c.loop.invariant c.loop-test.true, pick_low c.requires.ask_pick c.loop.invariant c.loop-test.true, pick_high c.requires.ask_pick c.loop.invariant c.loop-test.true, c.if-plan-q-eq-INDEX.false, c.requires.ask_pick.given.few_p)

pub loop-preserved : goal.loop-preserved
loop-preserved c =
    let low = pick_low c.requires.ask_pick c.loop.invariant c.loop-test.true in
    let high = pick_high c.requires.ask_pick c.loop.invariant c.loop-test.true in
    pick_next c.requires.ask_pick c.loop.invariant c.loop-test.true (pick_name c.requires.ask_pick c.loop.invariant c.loop-test.true c.requires.fact (omega (arith, low, high, c.if-plan-q-eq-INDEX.false))) refl (omega (arith, low, high, c.if-plan-q-eq-INDEX.false))

pub shape_of-list : goal.shape_of-list
shape_of-list c = c.loop.invariant.same

pub returns : goal.returns
returns c = pick_done c.requires.ask_pick c.loop.invariant c.loop-test.false
