-- `joined::keep` meets its contract. The loop keeps the nodes that are left; a node for which the test fails emits nothing.
use mathlib.Core.Path.{refl}
use native.Mathlib.Omega.{arith}
use borrow.Author.Tests.{not-true, not-false}
use Rattle.eval_filters.specs.Kept.{kept_passed, kept_step}
use Rattle.eval_filters.specs.Keeps.{kept_visit}
use Rattle.eval_rows.specs.Rows.{rows_full, rows_end, rows_stuck, rows_within}
use Rattle.eval_shortcuts.proofs.joined.keep.Goals as goal

pub loop-j-init : goal.loop-j-init
loop-j-init c = record { low = omega arith; same = refl; room = c.requires.0.kept.room; again = λ t k f k' h g. refl }

pub shape_of-list-then-cap-a : goal.shape_of-list-then-cap-a
shape_of-list-then-cap-a c = c.loop-j.invariant.same

pub returns-then-cap-a : goal.returns-then-cap-a
returns-then-cap-a c = rows_full {f = c.args.f} c.loop-j.invariant c.if-cap-a.true c.requires.0.kept.wide

pub told-b-requires : goal.told-b-requires
told-b-requires c = record { within = (rows_within c.loop-j.invariant c.requires.0 c.loop-j-test.true, c.requires.0.test); p_lt_z = c.requires.1 }

pub shape_of-list-then-b-z : goal.shape_of-list-then-b-z
shape_of-list-then-b-z c = c.loop-j.invariant.same

pub returns-then-b-z : goal.returns-then-b-z
returns-then-b-z c = rows_stuck {f = c.args.f} c.loop-j.invariant _ c.loop-j-test.true (c.told-b.ensures.untold c.if-b-z.true)

pub push_tail-v-requires : goal.push_tail-v-requires
push_tail-v-requires c = record { ask_visit = kept_visit c.requires.0.kept c.loop-j.invariant c.loop-j-test.true; tail_at = (c.requires.0.tail, c.requires.0.low) }

pub loop-j-preserved : goal.loop-j-preserved
loop-j-preserved c = kept_step c.loop-j.invariant c.loop-j-test.true (c.told-b.ensures.told (omega (arith, c.if-b-z.false))) (not-false _ c.if-not-b.false) c.push_tail-v.ensures c.push_tail-v.auto.list

pub loop-j-preserved-then-not-b : goal.loop-j-preserved-then-not-b
loop-j-preserved-then-not-b c = kept_passed c.loop-j.invariant c.loop-j-test.true (c.told-b.ensures.told (omega (arith, c.if-b-z.false))) (not-true _ c.if-not-b.true)

pub shape_of-list : goal.shape_of-list
shape_of-list c = c.loop-j.invariant.same

pub returns : goal.returns
returns c = rows_end {f = c.args.f} c.loop-j.invariant c.loop-j-test.false c.max.ensures
