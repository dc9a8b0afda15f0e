-- `text::placed::long` meets its contract. The loop's invariant: the bytes that were tested are placed. The measure is what is left.
use native.Mathlib.Omega.{arith}
use Prim.Native.Nat.{◌+◌, ◌-◌}
use lib.ListN.{length}
use Rattle.text.proofs.Along.{placed_none, placed_join}
use Rattle.text.proofs.placed.long.Goals as goal

pub overflow_sub-end : goal.overflow_sub-end
overflow_sub-end c = omega (arith, c.requires)

pub looks_like-guess-requires : goal.looks_like-guess-requires
looks_like-guess-requires c = omega (arith, c.requires)

pub loop-i-init : goal.loop-i-init
loop-i-init c = (omega (arith, c.requires), placed_none c.args.s.now 0)

pub overflow_sub-end-in-loop-i : goal.overflow_sub-end-in-loop-i
overflow_sub-end-in-loop-i c = omega (arith, c.loop-i.invariant.0)

pub overflow_sub-end-in-loop-i-2 : goal.overflow_sub-end-in-loop-i-2
overflow_sub-end-in-loop-i-2 c = omega (arith, c.loop-i.invariant.0)

pub step_at-n-requires : goal.step_at-n-requires
step_at-n-requires c = (omega (arith, c.loop-i.invariant.0), omega (arith, c.loop-i-test.true))

pub passes_step-requires : goal.passes_step-requires
passes_step-requires c = omega (arith, c.loop-i.invariant.0, c.step_at-n.ensures.1)

pub overflow_add-i : goal.overflow_add-i
overflow_add-i c = omega (arith, c.loop-i.invariant.0, c.step_at-n.ensures.1)

pub loop-i-smaller : goal.loop-i-smaller
loop-i-smaller c = omega (arith, c.loop-i.invariant.0, c.step_at-n.ensures.0)

pub loop-i-preserved : goal.loop-i-preserved
loop-i-preserved c = (omega (arith, c.loop-i.invariant.0, c.step_at-n.ensures.1), placed_join c.args.s.now 0 c.loop-i.i (c.loop-i.i + c.step_at-n.result) c.loop-i.invariant.1 (rw c.in-Some.is at c.passes_step.ensures))

pub passes_last-requires : goal.passes_last-requires
passes_last-requires c = (c.requires, c.loop-i.invariant.0, omega (arith, c.loop-i.invariant.0, c.loop-i-test.false))

pub returns : goal.returns
returns c = λ z. placed_join c.args.s.now 0 c.loop-i.i (length c.args.s.now - 3) c.loop-i.invariant.1 (c.passes_last.ensures z)
