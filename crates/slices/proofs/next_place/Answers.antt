-- `slices::next_place` meets its contract. Behind the last place the walk stands still, so that no step can pass the list.
use native.Mathlib.Omega.{arith}
use Rattle.definition.specs.Limits.{max_nodes}
use Rattle.slices.proofs.Stepping.{moved_down, moved_up, next_last, next_moved, safe_down, safe_up}
use Rattle.slices.proofs.next_place.Goals as goal

pub returns-then-left-eq0 : goal.returns-then-left-eq0
returns-then-left-eq0 c = next_last c.args.w.down c.args.w.step c.args.w.at c.args.w.left c.requires.0 c.if-left-eq0.true

pub overflow_sub-lower : goal.overflow_sub-lower
overflow_sub-lower c = safe_down max_nodes c.args.w.down c.args.w.step c.args.w.at c.args.w.left c.if-down.true c.requires.0 c.if-left-eq0.false c.requires.1.within

pub returns-then-down : goal.returns-then-down
returns-then-down c = rw (moved_down c.args.w.down c.args.w.step c.args.w.at c.if-down.true) at (next_moved c.args.w.down c.args.w.step c.args.w.at c.args.w.left c.requires.0)

pub overflow_add-upper : goal.overflow_add-upper
overflow_add-upper c = omega (arith, safe_up max_nodes c.args.w.down c.args.w.step c.args.w.at c.args.w.left c.if-down.false c.requires.0 c.if-left-eq0.false c.requires.1.within)

pub returns : goal.returns
returns c = rw (moved_up c.args.w.down c.args.w.step c.args.w.at c.if-down.false) at (next_moved c.args.w.down c.args.w.step c.args.w.at c.args.w.left c.requires.0)
