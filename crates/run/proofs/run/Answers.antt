-- `run::run` meets its contract, by the answer of the plan's check.
use borrow.Author.Rules.{rules}
use Rattle.run.specs.Tops.{is_planned_lem, run_planned, run_refused}
use Rattle.run.proofs.run.Goals as goal

pub run_form-requires : goal.run_form-requires
run_form-requires c = is_planned_lem c.check_plan.ensures.accepts c.if-check_plan.true

pub returns-then-check_plan : goal.returns-then-check_plan
returns-then-check_plan c = run_planned _ _ _ _ _ _ _ c.check_plan.ensures.accepts c.if-check_plan.true _ c.run_form.ensures

pub returns : goal.returns
returns c = run_refused _ _ _ _ _ _ _ c.check_plan.ensures.accepts c.if-check_plan.false
