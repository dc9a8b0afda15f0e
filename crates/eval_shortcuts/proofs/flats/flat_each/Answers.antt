-- `eval_shortcuts::flats::flat_each` meets its contract: what is left of the range gives the whole. Of the place that is looked at first nothing need be known.
use mathlib.Core.Path.{refl}
use native.Mathlib.Omega.{arith}
use borrow.Author.Tests.{not-false}
use Rattle.eval_shortcuts.specs.FlatLaws.{flats_none, flats_full, flats_step}
use mathlib.Core.Path.{ap}
use mathlib.Core.Bool.{not}
use Rattle.eval_shortcuts.proofs.flats.flat_each.Goals as goal

pub loop-j-init : goal.loop-j-init
loop-j-init c = record { same = refl; done = flats_none _ _ _ _ _ _ _ _ _ _ c.requires.list.room }

pub shape_of-list-then-cap-a : goal.shape_of-list-then-cap-a
shape_of-list-then-cap-a c = c.loop-j.invariant.same

pub returns-then-cap-a : goal.returns-then-cap-a
returns-then-cap-a c = flats_full c.loop-j.invariant c.loop-j-test.true c.if-cap-a.true c.requires.list.wide

pub is_flat-requires : goal.is_flat-requires
is_flat-requires c = record { X = _; tab = c.requires.given.tab; node_in = omega (arith, c.requires.range (omega arith)) }

pub shape_of-list-then-not-is_flat : goal.shape_of-list-then-not-is_flat
shape_of-list-then-not-is_flat c = c.loop-j.invariant.same

pub returns-then-not-is_flat : goal.returns-then-not-is_flat
returns-then-not-is_flat c = c.loop-j.invariant.done

pub push_selected-pushed-requires : goal.push_selected-pushed-requires
push_selected-pushed-requires c = record { given = c.requires.given; node_in = omega (arith, c.requires.range (omega arith)); plain = c.requires.plain; list = record { room = c.loop-j.invariant.done.passes.room; wide = omega (arith, c.loop-j.invariant.same, c.requires.list.wide); small = c.requires.list.small } }

pub overflow_add-j : goal.overflow_add-j
overflow_add-j c = omega (arith, c.loop-j-test.true)

pub next_container-j-requires : goal.next_container-j-requires
next_container-j-requires c = record { range = λ u. c.requires.range (omega arith) }

pub loop-j-smaller : goal.loop-j-smaller
loop-j-smaller c = omega (arith, c.next_container-j.ensures.low, c.loop-j-test.true)

pub loop-j-preserved : goal.loop-j-preserved
loop-j-preserved c = flats_step c.loop-j.invariant c.loop-j-test.true c.requires.given.tab (c.requires.range (omega arith)) (c.is_flat.ensures (not-false _ (ap not c.if-not-is_flat.false))) _ _ c.push_selected-pushed.auto.list c.push_selected-pushed.ensures _ c.next_container-j.ensures

pub shape_of-list : goal.shape_of-list
shape_of-list c = c.loop-j.invariant.same

pub returns : goal.returns
returns c = c.loop-j.invariant.done
