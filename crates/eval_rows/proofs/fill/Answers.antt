-- `fill` meets its contract. The loop keeps the cells, and the place at which it is is later and one of them stands there.
use mathlib.Core.Path.{refl, ◌∙◌}
use native.Mathlib.Omega.{arith}
use Rattle.eval_rows.specs.Calls.{left_asked, read_spelled}
use Rattle.eval_rows.specs.Columns.{least_less, fill_code, fill_asked, stands_left}
use Rattle.eval_rows.proofs.fill.Goals as goal

pub overflow_sub-e : goal.overflow_sub-e
overflow_sub-e c = omega (arith, c.requires.ask_fill.upto)

pub least-q-requires : goal.least-q-requires
least-q-requires c = c.requires.column.long

pub loop-q-init : goal.loop-q-init
loop-q-init c = (c.requires.column, (refl, c.least-q.ensures))

pub read_call-requires : goal.read_call-requires
read_call-requires c = left_asked (stands_left (fill_asked c.requires.ask_fill c.loop-q.invariant.0) refl (c.loop-q.invariant.1.1 c.loop-q-test.true).1 c.loop-q-test.true)

pub mentions-requires : goal.mentions-requires
mentions-requires c = ((left_asked (stands_left (fill_asked c.requires.ask_fill c.loop-q.invariant.0) refl (c.loop-q.invariant.1.1 c.loop-q-test.true).1 c.loop-q-test.true)).inside, (fill_code c.requires.ask_fill).1)

pub shape_of-column-then-mentions : goal.shape_of-column-then-mentions
shape_of-column-then-mentions c = c.loop-q.invariant.1.0

pub returns-then-mentions : goal.returns-then-mentions
returns-then-mentions c = record { column_2 = c.loop-q.invariant.0; lower_bound = λ h. (c.loop-q.invariant.1.1 c.loop-q-test.true).0 }

pub shape_of-column-in_default : goal.shape_of-column-in_default
shape_of-column-in_default c = c.loop-q.invariant.1.0

pub returns-in_default : goal.returns-in_default
returns-in_default c = record { column_2 = c.loop-q.invariant.0; lower_bound = λ h. absurd (omega arith) }

pub by_size-requires : goal.by_size-requires
by_size-requires c = let r = c.in-Some.ensures in record { ask_pass = fill_asked c.requires.ask_fill c.loop-q.invariant.0; call_at = (r.call, read_spelled (stands_left (fill_asked c.requires.ask_fill c.loop-q.invariant.0) refl (c.loop-q.invariant.1.1 c.loop-q-test.true).1 c.loop-q-test.true) r) }

pub overflow_sub-e-in-loop-q : goal.overflow_sub-e-in-loop-q
overflow_sub-e-in-loop-q c = omega (arith, c.requires.ask_fill.upto)

pub overflow_add-q : goal.overflow_add-q
overflow_add-q c = omega (arith, c.loop-q-test.true, (fill_code c.requires.ask_fill).1)

pub least-q-requires-in-loop-q : goal.least-q-requires-in-loop-q
least-q-requires-in-loop-q c = (c.by_size.ensures.cells refl).long

pub loop-q-smaller : goal.loop-q-smaller
loop-q-smaller c = least_less c.least-q-in-loop-q.ensures c.loop-q-test.true

pub loop-q-preserved : goal.loop-q-preserved
loop-q-preserved c = (c.by_size.ensures.cells refl, (c.by_size.auto.list ∙ c.loop-q.invariant.1.0, λ h. let u = c.least-q-in-loop-q.ensures h in let w = (c.loop-q.invariant.1.1 c.loop-q-test.true).0 in (omega (arith, u.0), u.1)))

pub shape_of-column : goal.shape_of-column
shape_of-column c = c.loop-q.invariant.1.0

pub returns : goal.returns
returns c = record { column_2 = c.loop-q.invariant.0; lower_bound = λ h. absurd (omega arith) }
