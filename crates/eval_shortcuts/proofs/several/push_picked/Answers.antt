-- `push_picked` meets its contract: the nodes that are left give the whole.
use mathlib.Core.Path.{refl, ◌∙◌}
use native.Mathlib.Omega.{arith}
use Rattle.eval_shortcuts.specs.Alongs.{along_start, along_done}
use Rattle.eval_shortcuts.specs.Picked.{picked_reach, picked_lost, picked_asked, picked_next}
use Rattle.eval_shortcuts.proofs.several.push_picked.Goals as goal

pub overflow_add-pc : goal.overflow_add-pc
overflow_add-pc c = omega (arith, c.requires.picks.bound, c.requires.ask_along.given.few_p)

pub word16-n-requires : goal.word16-n-requires
word16-n-requires c = omega (arith, c.requires.picks.bound)

pub loop-j-init : goal.loop-j-init
loop-j-init c = (refl, along_start _ _ _ _ _ _ _ _ _ _ c.requires.ask_along.list.room)

pub shape_of-list-then-cap-a : goal.shape_of-list-then-cap-a
shape_of-list-then-cap-a c = c.loop-j.invariant.1.same

pub returns-then-cap-a : goal.returns-then-cap-a
returns-then-cap-a c = along_done c.loop-j.invariant.1

pub reach-r-requires : goal.reach-r-requires
reach-r-requires c = picked_reach c.requires.ask_along c.requires.picks c.loop-j.invariant.1 c.loop-j-test.true

pub shape_of-list-then-r-pc : goal.shape_of-list-then-r-pc
shape_of-list-then-r-pc c = c.loop-j.invariant.1.same

pub returns-then-r-pc : goal.returns-then-r-pc
returns-then-r-pc c = along_done c.loop-j.invariant.1

pub overflow_add-pc-in-loop-j : goal.overflow_add-pc-in-loop-j
overflow_add-pc-in-loop-j c = omega (arith, c.requires.picks.bound, c.requires.ask_along.given.few_p)

pub pick-a-requires : goal.pick-a-requires
pick-a-requires c = record { ask_pick = picked_asked c.requires.ask_along c.requires.picks c.loop-j.invariant.1 c.loop-j-test.true c.reach-r.ensures c.in-Ok.is c.if-r-pc.false c.word16-n.ensures.is; n_in_bounds = omega (arith, c.loop-j.invariant.0, c.requires.picks.few, c.word16-n.ensures.is) }

pub loop-j-preserved : goal.loop-j-preserved
loop-j-preserved c = (c.pick-a.auto.near ∙ c.loop-j.invariant.0, picked_next c.requires.ask_along c.requires.picks c.loop-j.invariant.1 c.loop-j-test.true c.reach-r.ensures c.in-Ok.is c.if-r-pc.false c.word16-n.ensures.is c.pick-a.auto.list c.pick-a.ensures)

pub loop-j-preserved-in_default : goal.loop-j-preserved-in_default
loop-j-preserved-in_default c = (c.loop-j.invariant.0, picked_lost c.requires.ask_along c.requires.picks c.loop-j.invariant.1 c.loop-j-test.true c.reach-r.ensures c.in_default.is)

pub shape_of-list : goal.shape_of-list
shape_of-list c = c.loop-j.invariant.1.same

pub returns : goal.returns
returns c = along_done c.loop-j.invariant.1
