-- The contract of `check_plan` below leaves one answer, since a plan and a pool spell one form at most.
use borrow.Author.Rules.{rules}
use Rattle.promises_stated.specs.Running.{checks_settled}
use Rattle.promises_plans.proofs.check_plan.Goals as goal

pub returns : goal.returns
returns c = checks_settled c.check_plan.ensures.checks_plan
