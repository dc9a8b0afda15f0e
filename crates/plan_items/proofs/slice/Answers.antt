-- `plan_items::slice` meets its contract.
use Rattle.plan_items.proofs.Sliced.{slice_short, slice_flags, slice_start_lem, slice_stop_lem, slice_step_lem, slice_found, bound_of, no_bound_of}
use borrow.Author.Tests.{not-true, not-false}
use native.Mathlib.Omega.{arith}
use mathlib.Core.Path.{ap}
use mathlib.Core.Bool.{not}
use Rattle.plan_items.proofs.slice.Goals as goal

pub returns-then-plan-at-lt-SLICE_BODY : goal.returns-then-plan-at-lt-SLICE_BODY
returns-then-plan-at-lt-SLICE_BODY c = slice_short c.if-plan-at-lt-SLICE_BODY.true

pub overflow_cast-flags : goal.overflow_cast-flags
overflow_cast-flags c = omega (arith, c.type_inv.plan c.args.at)

pub returns-then-flags-gt7 : goal.returns-then-flags-gt7
returns-then-flags-gt7 c = slice_flags c.if-plan-at-lt-SLICE_BODY.false c.if-flags-gt7.true

pub returns-then-not-bound : goal.returns-then-not-bound
returns-then-not-bound c = slice_start_lem c.if-plan-at-lt-SLICE_BODY.false (no_bound_of c.bound.ensures (not-true c.bound.result (ap not c.if-not-bound.true)))

pub returns-then-not-bound-2 : goal.returns-then-not-bound-2
returns-then-not-bound-2 c = slice_stop_lem c.if-plan-at-lt-SLICE_BODY.false (bound_of c.bound.ensures (not-false c.bound.result (ap not c.if-not-bound.false))) (no_bound_of c.bound-2.ensures (not-true c.bound-2.result (ap not c.if-not-bound-2.true)))

pub returns-then-not-bound-3 : goal.returns-then-not-bound-3
returns-then-not-bound-3 c = slice_step_lem c.if-plan-at-lt-SLICE_BODY.false (bound_of c.bound.ensures (not-false c.bound.result (ap not c.if-not-bound.false))) (bound_of c.bound-2.ensures (not-false c.bound-2.result (ap not c.if-not-bound-2.false))) (no_bound_of c.bound-3.ensures (not-true c.bound-3.result (ap not c.if-not-bound-3.true)))

pub returns : goal.returns
returns c = slice_found c.if-plan-at-lt-SLICE_BODY.false (bound_of c.bound.ensures (not-false c.bound.result (ap not c.if-not-bound.false))) (bound_of c.bound-2.ensures (not-false c.bound-2.result (ap not c.if-not-bound-2.false))) c.args.p c.if-flags-gt7.false (bound_of c.bound-3.ensures (not-false c.bound-3.result (ap not c.if-not-bound-3.false)))
