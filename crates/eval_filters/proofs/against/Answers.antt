-- `against` meets its contract.
use Rattle.eval_filters.specs.Tests.{against_none, against_value, against_past, against_in, against_operator, against_nothing, against_node}
use native.Mathlib.Omega.{arith}
use Rattle.eval_filters.proofs.against.Goals as goal

pub returns-then-e-z : goal.returns-then-e-z
returns-then-e-z c = against_none _ _ _ _ _ _ _ _ _

pub past_literal-w-requires : goal.past_literal-w-requires
past_literal-w-requires c = against_past c.requires c.if-e-z.false

pub returns-then-e-w : goal.returns-then-e-w
returns-then-e-w c = against_none _ _ _ _ _ _ _ _ _

pub bounds-plan-w : goal.bounds-plan-w
bounds-plan-w c = against_in c.requires c.if-e-z.false _ c.past_literal-w.ensures c.if-e-w.false

pub returns-then-plan-w-ne-COMPARE : goal.returns-then-plan-w-ne-COMPARE
returns-then-plan-w-ne-COMPARE c = against_none _ _ _ _ _ _ _ _ _

pub overflow_add-result : goal.overflow_add-result
overflow_add-result c = omega (arith, against_in c.requires c.if-e-z.false _ c.past_literal-w.ensures c.if-e-w.false, c.requires.few_p)

pub returns-then-n-eq0 : goal.returns-then-n-eq0
returns-then-n-eq0 c = against_nothing c.requires c.if-e-z.false _ c.past_literal-w.ensures c.if-e-w.false c.if-plan-w-ne-COMPARE.false c.if-n-eq0.true

pub bounds-plan-w-2 : goal.bounds-plan-w-2
bounds-plan-w-2 c = against_operator c.requires c.if-e-z.false _ c.past_literal-w.ensures c.if-e-w.false c.if-plan-w-ne-COMPARE.false

pub compare_node-b-requires : goal.compare_node-b-requires
compare_node-b-requires c = record { tab = c.requires.tab; node_in = c.requires.inside (omega (arith, c.if-n-eq0.false)); literal = against_value c.requires c.if-e-z.false }

pub overflow_add-result-2 : goal.overflow_add-result-2
overflow_add-result-2 c = omega (arith, against_in c.requires c.if-e-z.false _ c.past_literal-w.ensures c.if-e-w.false, c.requires.few_p)

pub returns : goal.returns
returns c = against_node c.requires c.if-e-z.false _ c.past_literal-w.ensures c.if-e-w.false c.if-plan-w-ne-COMPARE.false c.if-n-eq0.false _ c.compare_node-b.ensures
