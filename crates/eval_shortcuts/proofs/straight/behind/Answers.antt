-- `behind` meets its contract.
use native.Mathlib.Omega.{arith}
use Rattle.eval_shortcuts.proofs.straight.behind.Goals as goal

pub loop-q-init : goal.loop-q-init
loop-q-init c = omega (arith, c.requires.1)

pub overflow_add-q : goal.overflow_add-q
overflow_add-q c = omega (arith, c.loop-q.invariant, c.requires.0)

pub word32-head-requires : goal.word32-head-requires
word32-head-requires c = omega (arith, c.loop-q-test.true)

pub overflow_add-q-then-head-eq-NAME_HEAD : goal.overflow_add-q-then-head-eq-NAME_HEAD
overflow_add-q-then-head-eq-NAME_HEAD c = omega (arith, c.loop-q.invariant, c.requires.0)

pub loop-q-smaller-then-head-eq-NAME_HEAD : goal.loop-q-smaller-then-head-eq-NAME_HEAD
loop-q-smaller-then-head-eq-NAME_HEAD c = omega (arith, c.loop-q-test.true)

pub loop-q-preserved-then-head-eq-NAME_HEAD : goal.loop-q-preserved-then-head-eq-NAME_HEAD
loop-q-preserved-then-head-eq-NAME_HEAD c = omega (arith, c.loop-q-test.true)

pub returns-then-head-ne-INDEX_HEAD : goal.returns-then-head-ne-INDEX_HEAD
returns-then-head-ne-INDEX_HEAD c = c.loop-q.invariant

pub overflow_add-q-else-head-eq-NAME_HEAD : goal.overflow_add-q-else-head-eq-NAME_HEAD
overflow_add-q-else-head-eq-NAME_HEAD c = omega (arith, c.loop-q.invariant, c.requires.0)

pub loop-q-smaller : goal.loop-q-smaller
loop-q-smaller c = omega (arith, c.loop-q-test.true)

pub loop-q-preserved : goal.loop-q-preserved
loop-q-preserved c = omega (arith, c.loop-q-test.true)

pub returns : goal.returns
returns c = c.loop-q.invariant
