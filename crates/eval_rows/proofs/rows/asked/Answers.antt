-- `rows::asked` meets its contract. The loop keeps that what is left of the filter's code gives what was wanted.
use mathlib.Core.Path.{refl, sym, ◌∙◌}
use native.Mathlib.Omega.{arith}
use borrow.Author.Tests.{not-false}
use Rattle.eval_rows.specs.Calls.{left_near}
use Rattle.eval_filters.specs.Turns.{turn_left}
use Rattle.eval_rows.specs.Turns.{turn_call, turn_at, turn_called}
use Rattle.eval_rows.specs.Rows.{asked_start, asked_turn, asked_further, answer_left, answer_none, answer_told}
use Rattle.eval_rows.proofs.rows.asked.Goals as goal

pub returns-then-q-first : goal.returns-then-q-first
returns-then-q-first c = record { done_answer = answer_left c.answer-acc.ensures c.place-q.ensures; held = c.requires.knows.1 }

pub loop-q-init : goal.loop-q-init
loop-q-init c = (asked_start c.answer-acc.ensures c.place-q.ensures, (refl, (refl, (refl, c.requires.knows.1))))

pub called-acc-requires : goal.called-acc-requires
called-acc-requires c = let t = asked_turn c.requires.within.0 c.requires.within.1 c.loop-q.invariant.0 c.loop-q-test.true in let h = turn_call t c.requires.knows.0 c.if-q-g.true in record { ask_left = (turn_at t h.0 (sym c.if-q-g.true), h.0); fact = h.1; ready = (c.requires.knows.0.ready, c.loop-q.invariant.1.1.1.1) }

pub overflow_add-q : goal.overflow_add-q
overflow_add-q c = let t = asked_turn c.requires.within.0 c.requires.within.1 c.loop-q.invariant.0 c.loop-q-test.true in let h = turn_call t c.requires.knows.0 c.if-q-g.true in omega (arith, h.0.ends, left_near (turn_left t))

pub loop-q-smaller-then-q-g : goal.loop-q-smaller-then-q-g
loop-q-smaller-then-q-g c = let t = asked_turn c.requires.within.0 c.requires.within.1 c.loop-q.invariant.0 c.loop-q-test.true in let h = turn_call t c.requires.knows.0 c.if-q-g.true in omega (arith, (turn_called t h.0 (sym c.if-q-g.true) c.called-acc.ensures.done_call).further refl, c.loop-q-test.true)

pub loop-q-preserved-then-q-g : goal.loop-q-preserved-then-q-g
loop-q-preserved-then-q-g c = let t = asked_turn c.requires.within.0 c.requires.within.1 c.loop-q.invariant.0 c.loop-q-test.true in let h = turn_call t c.requires.knows.0 c.if-q-g.true in (asked_further c.requires.within.0 c.requires.within.1 c.loop-q.invariant.0 c.loop-q-test.true (turn_called t h.0 (sym c.if-q-g.true) c.called-acc.ensures.done_call) refl, (c.called-acc.auto.edges ∙ c.loop-q.invariant.1.0, (c.called-acc.auto.sets ∙ c.loop-q.invariant.1.1.0, (c.called-acc.auto.marks ∙ c.loop-q.invariant.1.1.1.0, c.called-acc.ensures.held))))

pub plain_turn-t-requires : goal.plain_turn-t-requires
plain_turn-t-requires c = asked_turn c.requires.within.0 c.requires.within.1 c.loop-q.invariant.0 c.loop-q-test.true

pub shape_of-edges-then-not-t : goal.shape_of-edges-then-not-t
shape_of-edges-then-not-t c = c.loop-q.invariant.1.0

pub shape_of-sets-then-not-t : goal.shape_of-sets-then-not-t
shape_of-sets-then-not-t c = c.loop-q.invariant.1.1.0

pub shape_of-marks-then-not-t : goal.shape_of-marks-then-not-t
shape_of-marks-then-not-t c = c.loop-q.invariant.1.1.1.0

pub returns-then-not-t : goal.returns-then-not-t
returns-then-not-t c = record { done_answer = answer_none c.requires.within.0 c.requires.within.1 c.loop-q.invariant.0 c.loop-q-test.true; held = c.loop-q.invariant.1.1.1.1 }

pub loop-q-smaller : goal.loop-q-smaller
loop-q-smaller c = omega (arith, c.plain_turn-t.ensures.further (not-false _ c.if-not-t.false), c.loop-q-test.true)

pub loop-q-preserved : goal.loop-q-preserved
loop-q-preserved c = (asked_further c.requires.within.0 c.requires.within.1 c.loop-q.invariant.0 c.loop-q-test.true c.plain_turn-t.ensures (not-false _ c.if-not-t.false), c.loop-q.invariant.1)

pub shape_of-edges : goal.shape_of-edges
shape_of-edges c = c.loop-q.invariant.1.0

pub shape_of-sets : goal.shape_of-sets
shape_of-sets c = c.loop-q.invariant.1.1.0

pub shape_of-marks : goal.shape_of-marks
shape_of-marks c = c.loop-q.invariant.1.1.1.0

pub returns : goal.returns
returns c = record { done_answer = answer_told c.requires.within.0 c.requires.within.1 c.loop-q.invariant.0 c.loop-q-test.false; held = c.loop-q.invariant.1.1.1.1 }
