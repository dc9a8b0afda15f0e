-- `eval_shortcuts::flats::skip_flats` meets its contract: no node that is passed has a list or a map among its children.
use native.Mathlib.Omega.{arith}
use borrow.Author.Tests.{not-false}
use Rattle.eval_shortcuts.specs.FlatTests.{skipped_none, skipped_step}
use mathlib.Core.Path.{ap}
use mathlib.Core.Bool.{not}
use Rattle.eval_shortcuts.proofs.flats.skip_flats.Goals as goal

pub loop-j-init : goal.loop-j-init
loop-j-init c = skipped_none _ _ _

pub is_flat-requires : goal.is_flat-requires
is_flat-requires c = record { X = _; tab = c.requires.tab; node_in = omega (arith, c.requires.range (omega arith)) }

pub returns-then-not-is_flat : goal.returns-then-not-is_flat
returns-then-not-is_flat c = c.loop-j.invariant

pub next_container-j-requires : goal.next_container-j-requires
next_container-j-requires c = record { range = λ u. c.requires.range (omega arith) }

pub loop-j-smaller : goal.loop-j-smaller
loop-j-smaller c = omega (arith, c.next_container-j.ensures.low, c.loop-j-test.true)

pub loop-j-preserved : goal.loop-j-preserved
loop-j-preserved c = skipped_step c.loop-j.invariant c.loop-j-test.true (c.is_flat.ensures (not-false _ (ap not c.if-not-is_flat.false))) _ c.next_container-j.ensures

pub returns : goal.returns
returns c = c.loop-j.invariant
