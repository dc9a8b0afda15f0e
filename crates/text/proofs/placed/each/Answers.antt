-- `text::placed::each` meets its contract. The loop's invariant: the bytes that were tested are placed. The measure is what is left.
use native.Mathlib.Omega.{arith}
use mathlib.Core.Bool.{false≢true}
use Prim.Native.Nat.{◌+◌}
use borrow.Author.Tests.{not-false}
use Rattle.text.proofs.Along.{placed_none, placed_join, placed_last}
use mathlib.Core.Path.{ap}
use mathlib.Core.Bool.{not}
use Rattle.text.proofs.placed.each.Goals as goal

pub overflow_add-last : goal.overflow_add-last
overflow_add-last c = omega (arith, c.requires.1)

pub overflow_sub-last : goal.overflow_sub-last
overflow_sub-last c = omega (arith, c.requires.1)

pub loop-i-init : goal.loop-i-init
loop-i-init c = (omega arith, placed_none c.args.s.now 0)

pub passes_short-requires : goal.passes_short-requires
passes_short-requires c = omega (arith, c.requires.1)

pub returns-then-not-passes_short : goal.returns-then-not-passes_short
returns-then-not-passes_short c = λ z. absurd (false≢true z)

pub overflow_add-i : goal.overflow_add-i
overflow_add-i c = omega arith

pub loop-i-smaller : goal.loop-i-smaller
loop-i-smaller c = omega (arith, c.requires.0)

pub loop-i-preserved : goal.loop-i-preserved
loop-i-preserved c = (omega (arith, c.requires.1), placed_join c.args.s.now 0 c.loop-i.i (c.loop-i.i + c.args.n) c.loop-i.invariant.1 (c.passes_short.ensures (not-false _ (ap not c.if-not-passes_short.false))))

pub passes_short-requires-2 : goal.passes_short-requires-2
passes_short-requires-2 c = omega (arith, c.requires.1)

pub returns : goal.returns
returns c =
    λ z.
    placed_last c.args.s.now c.args.n c.loop-i.i c.requires.1 c.loop-i-test.false c.loop-i.invariant.1 (c.passes_short-2.ensures z)
