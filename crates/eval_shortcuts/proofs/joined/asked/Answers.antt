-- `joined::asked` meets its contract. The loop keeps that what is left of the filter's code gives the test's answer.
use mathlib.Core.Path.{sym, ◌∙◌}
use native.Mathlib.Omega.{arith}
use borrow.Author.Tests.{not-false}
use Rattle.eval_rows.specs.Calls.{left_in}
use Rattle.eval_filters.specs.Turns.{turn_left, turn_asks, turn_plain}
use Rattle.eval_shortcuts.specs.Joined.{joined_start, joined_turn, joined_further, joined_none, joined_told}
use Rattle.eval_shortcuts.proofs.joined.asked.Goals as goal

pub loop-q-init : goal.loop-q-init
loop-q-init c = joined_start c.requires.0

pub bounds-plan-q : goal.bounds-plan-q
bounds-plan-q c = left_in (turn_left (joined_turn c.requires.0 c.requires.1 c.loop-q.invariant c.loop-q-test.true))

pub logic_expr-t-requires : goal.logic_expr-t-requires
logic_expr-t-requires c = turn_asks (joined_turn c.requires.0 c.requires.1 c.loop-q.invariant c.loop-q-test.true) (sym c.is_logic.ensures ∙ c.if-is_logic.true)

pub loop-q-smaller-then-is_logic : goal.loop-q-smaller-then-is_logic
loop-q-smaller-then-is_logic c = omega (arith, c.logic_expr-t.ensures.further, c.loop-q-test.true)

pub loop-q-preserved-then-is_logic : goal.loop-q-preserved-then-is_logic
loop-q-preserved-then-is_logic c = λ t k h. c.logic_expr-t.ensures.goes _ _ _ _ _ (c.loop-q.invariant t k h) c.loop-q-test.true

pub test_at-t-requires : goal.test_at-t-requires
test_at-t-requires c = turn_left (joined_turn c.requires.0 c.requires.1 c.loop-q.invariant c.loop-q-test.true)

pub returns-then-not-t : goal.returns-then-not-t
returns-then-not-t c = joined_none c.requires.0 c.requires.1 c.loop-q.invariant c.loop-q-test.true

pub loop-q-smaller : goal.loop-q-smaller
loop-q-smaller c = omega (arith, c.test_at-t.ensures.further (not-false _ c.if-not-t.false), c.loop-q-test.true)

pub loop-q-preserved : goal.loop-q-preserved
loop-q-preserved c = joined_further c.requires.0 c.requires.1 c.loop-q.invariant (turn_plain (joined_turn c.requires.0 c.requires.1 c.loop-q.invariant c.loop-q-test.true) c.test_at-t.ensures) (not-false _ c.if-not-t.false)

pub returns : goal.returns
returns c = joined_told c.requires.0 c.requires.1 c.loop-q.invariant c.loop-q-test.false
