-- `ends` meets its contract: what is left of the selectors gives the whole.
use mathlib.Core.Bool.{false≢true}
use native.Mathlib.Omega.{arith}
use borrow.Author.Tests.{eqb-true}
use Rattle.eval_shortcuts.specs.Picks.{ends_start, ends_next, ends_done}
use Rattle.eval_shortcuts.proofs.several.ends.Goals as goal

pub loop-init : goal.loop-init
loop-init c = ends_start _ _ _ _ (omega arith) c.requires.1

pub returns-then-plan-q : goal.returns-then-plan-q
returns-then-plan-q c e = absurd (false≢true e)

pub bounds-plan-q : goal.bounds-plan-q
bounds-plan-q c = omega (arith, c.if-plan-q.false)

pub overflow_add-q : goal.overflow_add-q
overflow_add-q c = omega (arith, c.if-plan-q.false, c.requires.0)

pub loop-preserved-then-k-eq-NAME : goal.loop-preserved-then-k-eq-NAME
loop-preserved-then-k-eq-NAME c = ends_next c.loop.invariant _ _ (omega (arith, c.loop-test.true)) c.if-plan-q.false (omega (arith, c.if-k-eq-NAME.true)) (omega (arith, c.if-k-eq-NAME.true)) (omega (arith, c.if-k-eq-NAME.true))

pub returns-then-k-ne-INDEX : goal.returns-then-k-ne-INDEX
returns-then-k-ne-INDEX c e = absurd (false≢true e)

pub overflow_add-q-in-loop : goal.overflow_add-q-in-loop
overflow_add-q-in-loop c = omega (arith, c.if-plan-q.false, c.requires.0)

pub loop-preserved : goal.loop-preserved
loop-preserved c = ends_next c.loop.invariant _ _ (omega (arith, c.loop-test.true)) c.if-plan-q.false (omega (arith, c.if-k-ne-INDEX.false)) (omega (arith, c.if-k-ne-INDEX.false)) (omega (arith, c.if-k-ne-INDEX.false))

pub returns-then-plan-q-2 : goal.returns-then-plan-q-2
returns-then-plan-q-2 c e = absurd (false≢true e)

pub bounds-plan-q-2 : goal.bounds-plan-q-2
bounds-plan-q-2 c = omega (arith, c.if-plan-q-2.false)

pub returns : goal.returns
returns c e = ends_done c.loop.invariant (omega (arith, c.loop-test.false)) c.if-plan-q-2.false (eqb-true _ _ e)
