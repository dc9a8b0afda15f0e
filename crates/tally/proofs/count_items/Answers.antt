-- `tally::count_items` meets its contract: what was counted and what is left come to all items.
use native.Mathlib.Omega.{arith}
use mathlib.Core.Path.{refl}
use lib.ListN.{get_or}
use Rattle.tally.proofs.Laws.{going_start, going_on, going_end}
use Rattle.tally.proofs.count_items.Goals as goal

pub loop-at-init : goal.loop-at-init
loop-at-init c = (omega arith, going_start c.args.plan.now)

pub overflow_cast-k : goal.overflow_cast-k
overflow_cast-k c = omega (arith, c.type_inv.plan c.loop-at.at)

pub offset_bounds-counts-k : goal.offset_bounds-counts-k
offset_bounds-counts-k c = omega (arith, c.type_inv.plan c.loop-at.at)

pub bounds-counts-k : goal.bounds-counts-k
bounds-counts-k c = omega (arith, c.type_inv.plan c.loop-at.at)

pub overflow_add-counts : goal.overflow_add-counts
overflow_add-counts c =
    let b = c.type_inv.plan c.loop-at.at in
    omega (arith, c.loop-at.invariant.0, c.loop-at.invariant.1.small (get_or c.args.plan.now c.loop-at.at 0) (omega (arith, b)), c.requires)

pub offset_bounds-counts-k-in-loop-at : goal.offset_bounds-counts-k-in-loop-at
offset_bounds-counts-k-in-loop-at c = omega (arith, c.type_inv.plan c.loop-at.at)

pub bounds-counts-k-in-loop-at : goal.bounds-counts-k-in-loop-at
bounds-counts-k-in-loop-at c = omega (arith, c.type_inv.plan c.loop-at.at)

pub loop-at-preserved : goal.loop-at-preserved
loop-at-preserved c =
    let b = c.type_inv.plan c.loop-at.at in
    (omega (arith, c.body_length.ensures.1), going_on c.args.plan.now c.loop-at.at c.loop-at.counts c.loop-at.invariant.1 c.loop-at-test.true (get_or c.args.plan.now c.loop-at.at 0) c.body_length.result refl (omega (arith, b)) c.body_length.ensures.0)

pub returns : goal.returns
returns c = going_end c.args.plan.now c.loop-at.at c.loop-at.counts c.loop-at.invariant.1 c.loop-at-test.false
