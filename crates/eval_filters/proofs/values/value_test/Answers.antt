-- `value_test` meets its contract.
use native.Mathlib.Omega.{arith}
use Rattle.eval_filters.specs.Values.{test_none, test_operand_lem, operand_next, both_in, both_operator, both_done}
use Rattle.eval_filters.proofs.values.value_test.Goals as goal

pub measured-requires : goal.measured-requires
measured-requires c = test_operand_lem c.requires

pub returns-in_default : goal.returns-in_default
returns-in_default c = test_none c.untold.ensures

pub returns-then-e-z : goal.returns-then-e-z
returns-then-e-z c = test_none c.untold-then-e-z.ensures

pub measured-requires-2 : goal.measured-requires-2
measured-requires-2 c = operand_next (test_operand_lem c.requires) _ c.in-Some.ensures c.if-e-z.false

pub returns-in_default-measured : goal.returns-in_default-measured
returns-in_default-measured c = test_none c.untold-in_default-measured.ensures

pub returns-then-e-w : goal.returns-then-e-w
returns-then-e-w c = test_none c.untold-then-e-w.ensures

pub bounds-plan-w : goal.bounds-plan-w
bounds-plan-w c = both_in c.requires _ c.in-Some.ensures _ c.in-Some-measured.ensures c.if-e-w.false

pub returns-then-plan-w-ne-COMPARE : goal.returns-then-plan-w-ne-COMPARE
returns-then-plan-w-ne-COMPARE c = test_none c.untold-then-plan-w-ne-COMPARE.ensures

pub bounds-plan-w-2 : goal.bounds-plan-w-2
bounds-plan-w-2 c = both_operator c.requires _ c.in-Some.ensures _ c.in-Some-measured.ensures c.if-e-w.false c.if-plan-w-ne-COMPARE.false

pub compare_operands-t-requires : goal.compare_operands-t-requires
compare_operands-t-requires c = record { accepted = c.requires.within.tab; pair = record { first = c.in-Some.ensures.fine; second = c.in-Some-measured.ensures.fine } }

pub overflow_add-result : goal.overflow_add-result
overflow_add-result c = omega (arith, both_operator c.requires _ c.in-Some.ensures _ c.in-Some-measured.ensures c.if-e-w.false c.if-plan-w-ne-COMPARE.false, c.requires.within.few_p)

pub returns : goal.returns
returns c = both_done c.requires _ c.in-Some.ensures _ c.in-Some-measured.ensures c.if-e-w.false c.if-plan-w-ne-COMPARE.false _ c.compare_operands-t.ensures
