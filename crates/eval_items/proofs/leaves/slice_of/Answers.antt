-- `slice_of` meets its contract: the three numbers are in range, and the walk is that of every slice there.
use mathlib.Core.Path.{◌∙◌}
use native.Mathlib.Omega.{arith}
use Rattle.eval_items.specs.SliceLaws.{slice_room, done_slice}
use Rattle.eval_items.proofs.Signs.{ranged}
use Rattle.number_integers.specs.Signs.{back}
use Rattle.eval_items.proofs.leaves.slice_of.Goals as goal

pub overflow_add-flags : goal.overflow_add-flags
overflow_add-flags c = let r = slice_room c.args.plan.now c.args.p c.args.n c.requires in omega arith

pub bounds-plan-p : goal.bounds-plan-p
bounds-plan-p c = let r = slice_room c.args.plan.now c.args.p c.args.n c.requires in omega arith

pub overflow_add-p : goal.overflow_add-p
overflow_add-p c = let r = slice_room c.args.plan.now c.args.p c.args.n c.requires in omega arith

pub int64-start-requires : goal.int64-start-requires
int64-start-requires c = let r = slice_room c.args.plan.now c.args.p c.args.n c.requires in omega arith

pub overflow_add-p-2 : goal.overflow_add-p-2
overflow_add-p-2 c = let r = slice_room c.args.plan.now c.args.p c.args.n c.requires in omega arith

pub int64-stop-requires : goal.int64-stop-requires
int64-stop-requires c = let r = slice_room c.args.plan.now c.args.p c.args.n c.requires in omega arith

pub overflow_add-p-3 : goal.overflow_add-p-3
overflow_add-p-3 c = let r = slice_room c.args.plan.now c.args.p c.args.n c.requires in omega arith

pub int64-step-requires : goal.int64-step-requires
int64-step-requires c = let r = slice_room c.args.plan.now c.args.p c.args.n c.requires in omega arith

pub slice_walk-requires : goal.slice_walk-requires
slice_walk-requires c =
    let r = slice_room c.args.plan.now c.args.p c.args.n c.requires in
    (c.requires.few, ranged c.int64-start.result _ c.int64-start.type_inv c.int64-start.ensures r.start, ranged c.int64-stop.result _ c.int64-stop.type_inv c.int64-stop.ensures r.stop, ranged c.int64-step.result _ c.int64-step.type_inv c.int64-step.ensures r.step)

pub returns : goal.returns
returns c = done_slice c.args.plan.now c.args.p c.args.n _ _ _ (back c.int64-start.result c.int64-start.type_inv ∙ c.int64-start.ensures) (back c.int64-stop.result c.int64-stop.type_inv ∙ c.int64-stop.ensures) (back c.int64-step.result c.int64-step.type_inv ∙ c.int64-step.ensures) c.slice_walk.result c.slice_walk.ensures
