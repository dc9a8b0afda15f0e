-- `past_literal` meets its contract: each kind of literal has its length.
use native.Mathlib.Omega.{arith}
use Rattle.eval_items.specs.EndLaws.{past_constant, past_text, past_number, literal_in}
use Rattle.eval_items.proofs.plans.past_literal.Goals as goal

pub bounds-plan-q : goal.bounds-plan-q
bounds-plan-q c = omega (arith, literal_in c.args.plan.now c.args.q c.requires)

pub overflow_add-result : goal.overflow_add-result
overflow_add-result c = omega (arith, literal_in c.args.plan.now c.args.q c.requires)

pub returns-then-k-eq-CONSTANT : goal.returns-then-k-eq-CONSTANT
returns-then-k-eq-CONSTANT c = past_constant c.args.plan.now c.args.q c.if-k-eq-CONSTANT.true

pub overflow_add-result-then-k-eq-TEXT : goal.overflow_add-result-then-k-eq-TEXT
overflow_add-result-then-k-eq-TEXT c = omega (arith, literal_in c.args.plan.now c.args.q c.requires)

pub returns-then-k-eq-TEXT : goal.returns-then-k-eq-TEXT
returns-then-k-eq-TEXT c = past_text c.args.plan.now c.args.q c.if-k-eq-TEXT.true

pub overflow_add-result-2 : goal.overflow_add-result-2
overflow_add-result-2 c = omega (arith, literal_in c.args.plan.now c.args.q c.requires)

pub returns : goal.returns
returns c = past_number c.args.plan.now c.args.q c.if-k-eq-CONSTANT.false c.if-k-eq-TEXT.false
