-- `next_container` meets its contract: each node that is passed is neither list nor map.
use native.Mathlib.Omega.{arith}
use Rattle.eval_front.specs.Places.{passed_next}
use Rattle.eval_front.proofs.next_container.Goals as goal

pub loop-j-init : goal.loop-j-init
loop-j-init c = record { low = omega arith; high = λ l. l; passed = λ m a b. absurd (omega arith) }

pub kind-requires : goal.kind-requires
kind-requires c = omega (arith, c.requires.range (omega arith))

pub returns-then-kind-ge-KIND_LIST : goal.returns-then-kind-ge-KIND_LIST
returns-then-kind-ge-KIND_LIST c = record { low = c.loop-j.invariant.low; high = c.loop-j.invariant.high; passed = c.loop-j.invariant.passed }

pub loop-j-preserved : goal.loop-j-preserved
loop-j-preserved c = passed_next _ _ _ _ c.loop-j.invariant c.loop-j-test.true (omega (arith, c.if-kind-ge-KIND_LIST.false, c.kind.ensures))

pub returns : goal.returns
returns c = record { low = c.loop-j.invariant.low; high = c.loop-j.invariant.high; passed = c.loop-j.invariant.passed }
