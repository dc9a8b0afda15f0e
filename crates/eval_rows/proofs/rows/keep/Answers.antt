-- `rows::keep` meets its contract. The loop keeps the nodes that are left, of which those for which the test fails emit nothing; or the cells.
use mathlib.Core.Path.{refl, ◌∙◌}
use native.Mathlib.Omega.{arith}
use borrow.Author.Tests.{not-true, not-false}
use Rattle.eval_filters.specs.Keeps.{kept_visit}
use Rattle.eval_asks.specs.Cells.{cell_rest}
use Rattle.eval_rows.specs.Columns.{pass_code, pass_within, pass_start, pass_full, pass_end, place_in, pass_cell, answer_near, pass_set, pass_stuck, pass_in, pass_out}
use Rattle.eval_rows.proofs.rows.keep.Goals as goal

pub loop-j-init : goal.loop-j-init
loop-j-init c = (pass_start {f = c.args.f} c.requires.ask_pass, (refl, (refl, (refl, c.requires.knows.1))))

pub shape_of-edges-then-cap-a : goal.shape_of-edges-then-cap-a
shape_of-edges-then-cap-a c = c.loop-j.invariant.1.0

pub shape_of-sets-then-cap-a : goal.shape_of-sets-then-cap-a
shape_of-sets-then-cap-a c = c.loop-j.invariant.1.1.0

pub shape_of-marks-then-cap-a : goal.shape_of-marks-then-cap-a
shape_of-marks-then-cap-a c = c.loop-j.invariant.1.1.1.0

pub shape_of-list-then-cap-a : goal.shape_of-list-then-cap-a
shape_of-list-then-cap-a c = c.loop-j.invariant.0.same

pub returns-then-cap-a : goal.returns-then-cap-a
returns-then-cap-a c = pass_full {f = c.args.f} c.requires.ask_pass c.loop-j.invariant.0 c.if-cap-a.true

pub overflow_sub-j : goal.overflow_sub-j
overflow_sub-j c = omega (arith, c.loop-j.invariant.0.low)

pub stands-c-requires : goal.stands-c-requires
stands-c-requires c = let n = pass_code c.requires.ask_pass in (omega (arith, n.0, n.1), place_in {f = c.args.f} c.requires.ask_pass c.loop-j.invariant.0 c.loop-j-test.true)

pub asked-b-requires : goal.asked-b-requires
asked-b-requires c = record { within = (pass_within {f = c.args.f} c.requires.ask_pass _ c.loop-j.invariant.0.low c.loop-j-test.true, cell_rest (pass_cell {f = c.args.f} c.requires.ask_pass c.loop-j.invariant.0 c.loop-j-test.true c.stands-c.ensures) c.requires.ask_pass.test); knows = (c.requires.knows.0, c.loop-j.invariant.1.1.1.1) }

pub cell-requires : goal.cell-requires
cell-requires c = answer_near {f = c.args.f} c.requires.ask_pass c.loop-j.invariant.0 c.loop-j-test.true c.stands-c.ensures c.asked-b.ensures.done_answer

pub overflow_sub-list : goal.overflow_sub-list
overflow_sub-list c = omega (arith, c.loop-j.invariant.0.low)

pub offset_bounds-list-j : goal.offset_bounds-list-j
offset_bounds-list-j c = omega (arith, c.requires.ask_pass.range (omega (arith, c.loop-j-test.true)), c.requires.ask_pass.given.tab.size.few, c.loop-j-test.true)

pub bounds-list-j : goal.bounds-list-j
bounds-list-j c = place_in {f = c.args.f} c.requires.ask_pass c.loop-j.invariant.0 c.loop-j-test.true c.if-in_cells-2.true

pub loop-j-preserved-then-in_cells-2 : goal.loop-j-preserved-then-in_cells-2
loop-j-preserved-then-in_cells-2 c = (pass_set {f = c.args.f} c.requires.ask_pass c.loop-j.invariant.0 c.loop-j-test.true c.stands-c.ensures c.asked-b.ensures.done_answer _ c.cell.ensures c.if-in_cells-2.true, (c.asked-b.auto.edges ∙ c.loop-j.invariant.1.0, (c.asked-b.auto.sets ∙ c.loop-j.invariant.1.1.0, (c.asked-b.auto.marks ∙ c.loop-j.invariant.1.1.1.0, c.asked-b.ensures.held))))

pub shape_of-edges-then-b-z : goal.shape_of-edges-then-b-z
shape_of-edges-then-b-z c = c.asked-b.auto.edges ∙ c.loop-j.invariant.1.0

pub shape_of-sets-then-b-z : goal.shape_of-sets-then-b-z
shape_of-sets-then-b-z c = c.asked-b.auto.sets ∙ c.loop-j.invariant.1.1.0

pub shape_of-marks-then-b-z : goal.shape_of-marks-then-b-z
shape_of-marks-then-b-z c = c.asked-b.auto.marks ∙ c.loop-j.invariant.1.1.1.0

pub shape_of-list-then-b-z : goal.shape_of-list-then-b-z
shape_of-list-then-b-z c = c.loop-j.invariant.0.same

pub returns-then-b-z : goal.returns-then-b-z
returns-then-b-z c = pass_stuck {f = c.args.f} c.requires.ask_pass c.loop-j.invariant.0 c.loop-j-test.true c.stands-c.ensures c.asked-b.ensures.done_answer c.if-in_cells-2.false c.if-b-z.true

pub push_tail-v-requires : goal.push_tail-v-requires
push_tail-v-requires c = let r = c.requires.ask_pass.rows c.if-in_cells-2.false in record { ask_visit = kept_visit r.kept (c.loop-j.invariant.0.rows c.if-in_cells-2.false) c.loop-j-test.true; tail_at = (r.tail, r.low) }

pub loop-j-preserved : goal.loop-j-preserved
loop-j-preserved c = (pass_in {f = c.args.f} c.requires.ask_pass c.loop-j.invariant.0 c.loop-j-test.true c.stands-c.ensures c.asked-b.ensures.done_answer c.if-in_cells-2.false (omega (arith, c.if-b-z.false)) (not-false _ c.if-not-b.false) c.push_tail-v.ensures c.push_tail-v.auto.list, (c.asked-b.auto.edges ∙ c.loop-j.invariant.1.0, (c.asked-b.auto.sets ∙ c.loop-j.invariant.1.1.0, (c.asked-b.auto.marks ∙ c.loop-j.invariant.1.1.1.0, c.asked-b.ensures.held))))

pub loop-j-preserved-then-not-b : goal.loop-j-preserved-then-not-b
loop-j-preserved-then-not-b c = (pass_out {f = c.args.f} c.requires.ask_pass c.loop-j.invariant.0 c.loop-j-test.true c.stands-c.ensures c.asked-b.ensures.done_answer c.if-in_cells-2.false (omega (arith, c.if-b-z.false)) (not-true _ c.if-not-b.true), (c.asked-b.auto.edges ∙ c.loop-j.invariant.1.0, (c.asked-b.auto.sets ∙ c.loop-j.invariant.1.1.0, (c.asked-b.auto.marks ∙ c.loop-j.invariant.1.1.1.0, c.asked-b.ensures.held))))

pub shape_of-edges : goal.shape_of-edges
shape_of-edges c = c.loop-j.invariant.1.0

pub shape_of-sets : goal.shape_of-sets
shape_of-sets c = c.loop-j.invariant.1.1.0

pub shape_of-marks : goal.shape_of-marks
shape_of-marks c = c.loop-j.invariant.1.1.1.0

pub shape_of-list : goal.shape_of-list
shape_of-list c = c.loop-j.invariant.0.same

pub returns : goal.returns
returns c = pass_end {f = c.args.f} c.requires.ask_pass c.loop-j.invariant.0 c.loop-j-test.false c.max.ensures
