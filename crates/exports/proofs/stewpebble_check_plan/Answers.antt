-- The exported plan check hands out the refusal that `check_plan` comes to.
use borrow.Author.Rules.{rules}
use Rattle.exports.proofs.Answers.{checks_as}
use Rattle.exports.proofs.stewpebble_check_plan.Goals as goal

pub returns-then-check_plan : goal.returns-then-check_plan
returns-then-check_plan c = checks_as c.check_plan.ensures c.if-check_plan.true

pub returns : goal.returns
returns c = checks_as c.check_plan.ensures c.if-check_plan.false
