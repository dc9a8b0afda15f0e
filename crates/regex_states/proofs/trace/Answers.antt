-- `regex_states::trace` meets its contract.
use mathlib.Core.Path.{refl, ◌∙◌}
use native.Mathlib.Omega.{arith}
use borrow.Author.Tests.{eqb-true}
use Rattle.regex_states.proofs.Traces.{trace_start, trace_inside, trace_row, trace_follow, trace_end, trace_settled, trace_step, trace_fits, trace_read, trace_ran}
use Rattle.regex_states.proofs.trace.Goals as goal

pub loop-i-init : goal.loop-i-init
loop-i-init c = (refl, refl, refl, trace_start c.requires.fact_1 c.requires.fact_2)

pub follow-s-requires : goal.follow-s-requires
follow-s-requires c = (c.loop-i.invariant.3.place, trace_inside c.loop-i.invariant.3)

pub overflow_mul-k : goal.overflow_mul-k
overflow_mul-k c = let w = trace_follow c.loop-i.invariant.3 c.follow-s.ensures in omega (arith, trace_row w)

pub overflow_add-k : goal.overflow_add-k
overflow_add-k c = let w = trace_follow c.loop-i.invariant.3 c.follow-s.ensures in omega (arith, trace_row w)

pub bounds-sets-k : goal.bounds-sets-k
bounds-sets-k c = let w = trace_follow c.loop-i.invariant.3 c.follow-s.ensures in omega (arith, trace_row w)

pub overflow_mul-result : goal.overflow_mul-result
overflow_mul-result c = let w = trace_follow c.loop-i.invariant.3 c.follow-s.ensures in omega (arith, trace_row w)

pub overflow_add-result : goal.overflow_add-result
overflow_add-result c = let w = trace_follow c.loop-i.invariant.3 c.follow-s.ensures in omega (arith, trace_row w)

pub bounds-sets-k-then-sets-k-eq1 : goal.bounds-sets-k-then-sets-k-eq1
bounds-sets-k-then-sets-k-eq1 c = let w = trace_follow c.loop-i.invariant.3 c.follow-s.ensures in omega (arith, trace_row w)

pub returns-then-sets-k-eq1 : goal.returns-then-sets-k-eq1
returns-then-sets-k-eq1 c = let w = trace_follow c.loop-i.invariant.3 c.follow-s.ensures in record { ran = trace_settled w c.if-sets-k-eq1.true; tables = w.tables }

pub char_at-c-requires : goal.char_at-c-requires
char_at-c-requires c = record { fact_1 = c.if-i-end.true; fact_2 = omega arith }

pub step-t-requires : goal.step-t-requires
step-t-requires c = let w = trace_follow c.loop-i.invariant.3 c.follow-s.ensures in record { fact_1 = w.tables; fact_2 = (w.low, w.high, w.long) }

pub bounds-sets-2 : goal.bounds-sets-2
bounds-sets-2 c = omega (arith, c.step-t.ensures.tables.some, c.step-t.ensures.tables.sets)

pub read-requires : goal.read-requires
read-requires c = let w = trace_follow c.loop-i.invariant.3 c.follow-s.ensures in record { fact_1 = trace_fits w c.if-i-end.true c.char_at-c.ensures c.step-t.ensures; fact_2 = (c.char_at-c.ensures.within, trace_read w c.if-i-end.true c.char_at-c.ensures c.step-t.ensures c.if-t-eq0.true); fact_3 = λ e. c.step-t.ensures.tables.grows (eqb-true _ _ e) }

pub shape_of-edges-then-t-eq0 : goal.shape_of-edges-then-t-eq0
shape_of-edges-then-t-eq0 c = c.step-t.auto.edges ∙ c.loop-i.invariant.0

pub shape_of-sets-then-t-eq0 : goal.shape_of-sets-then-t-eq0
shape_of-sets-then-t-eq0 c = c.step-t.auto.sets ∙ c.loop-i.invariant.1

pub shape_of-marks-then-t-eq0 : goal.shape_of-marks-then-t-eq0
shape_of-marks-then-t-eq0 c = c.read.auto.marks ∙ c.step-t.auto.marks ∙ c.loop-i.invariant.2

pub returns-then-t-eq0 : goal.returns-then-t-eq0
returns-then-t-eq0 c = let w = trace_follow c.loop-i.invariant.3 c.follow-s.ensures in record { ran = trace_ran w c.if-i-end.true c.char_at-c.ensures c.step-t.ensures refl c.read.ensures; tables = c.step-t.ensures.tables }

pub loop-i-smaller-then-i-end : goal.loop-i-smaller-then-i-end
loop-i-smaller-then-i-end c = omega (arith, c.char_at-c.ensures.after, c.char_at-c.ensures.within, c.follow-s.ensures.from)

pub loop-i-preserved-then-i-end : goal.loop-i-preserved-then-i-end
loop-i-preserved-then-i-end c = let w = trace_follow c.loop-i.invariant.3 c.follow-s.ensures in (c.step-t.auto.edges ∙ c.loop-i.invariant.0, c.step-t.auto.sets ∙ c.loop-i.invariant.1, c.step-t.auto.marks ∙ c.loop-i.invariant.2, trace_step w c.if-i-end.true c.char_at-c.ensures c.step-t.ensures c.if-t-eq0.false)

pub loop-i-smaller : goal.loop-i-smaller
loop-i-smaller c = omega (arith, c.if-i-end.false, c.loop-i-test.true, c.follow-s.ensures.from)

pub loop-i-preserved : goal.loop-i-preserved
loop-i-preserved c = (c.loop-i.invariant.0, c.loop-i.invariant.1, c.loop-i.invariant.2, trace_follow c.loop-i.invariant.3 c.follow-s.ensures)

pub overflow_mul-result-2 : goal.overflow_mul-result-2
overflow_mul-result-2 c = omega (arith, trace_row c.loop-i.invariant.3)

pub overflow_add-result-2 : goal.overflow_add-result-2
overflow_add-result-2 c = omega (arith, trace_row c.loop-i.invariant.3)

pub bounds-sets-k-2 : goal.bounds-sets-k-2
bounds-sets-k-2 c = omega (arith, trace_row c.loop-i.invariant.3)

pub returns : goal.returns
returns c = record { ran = trace_end c.loop-i.invariant.3 c.loop-i-test.false; tables = c.loop-i.invariant.3.tables }
