-- `plan_items::calls` meets its contract.
use Rattle.plan_items.proofs.Called.{going_start, going_below, going_above, going_refused, going_deep, going_more}
use Rattle.plan_items.proofs.Words.{kind_in}
use borrow.Author.Tests.{not-true, not-false}
use mathlib.Core.Path.{sym, ◌∙◌}
use native.Mathlib.Omega.{arith}
use mathlib.Core.Path.{ap}
use mathlib.Core.Bool.{not}
use Rattle.plan_items.proofs.calls.Goals as goal

pub loop-room-init : goal.loop-room-init
loop-room-init c = going_start c.requires.0 c.requires.1

pub returns-then-k-lt-COUNT : goal.returns-then-k-lt-COUNT
returns-then-k-lt-COUNT c = going_below c.loop-room.invariant c.kind-k.ensures c.if-k-lt-COUNT.true

pub returns-then-k-gt-VALUE : goal.returns-then-k-gt-VALUE
returns-then-k-gt-VALUE c = going_above c.loop-room.invariant c.kind-k.ensures c.if-k-gt-VALUE.true

pub allows-requires : goal.allows-requires
allows-requires c = (c.if-k-lt-COUNT.false, c.if-k-gt-VALUE.false)

pub returns-then-not-allows : goal.returns-then-not-allows
returns-then-not-allows c = going_refused c.loop-room.invariant c.kind-k.ensures c.if-k-lt-COUNT.false c.if-k-gt-VALUE.false (sym c.allows.ensures ∙ not-true c.allows.result (ap not c.if-not-allows.true))

pub returns-then-room-h : goal.returns-then-room-h
returns-then-room-h c = going_deep c.loop-room.invariant c.kind-k.ensures c.if-k-lt-COUNT.false c.if-k-gt-VALUE.false c.if-room-h.true

pub overflow_add-at : goal.overflow_add-at
overflow_add-at c = omega (arith, kind_in c.kind-k.ensures (omega arith))

pub overflow_add-h : goal.overflow_add-h
overflow_add-h c = omega (arith, c.requires.2)

pub loop-room-smaller : goal.loop-room-smaller
loop-room-smaller c = omega (arith, kind_in c.kind-k.ensures (omega arith))

pub loop-room-preserved : goal.loop-room-preserved
loop-room-preserved c = going_more c.loop-room.invariant c.kind-k.ensures c.if-k-lt-COUNT.false c.if-k-gt-VALUE.false (sym c.allows.ensures ∙ not-false c.allows.result (ap not c.if-not-allows.false)) c.if-room-h.false
