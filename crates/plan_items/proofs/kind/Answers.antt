-- `plan_items::kind` meets its contract.
use Rattle.plan_items.proofs.Words.{kind_byte, kind_end}
use Rattle.plan_items.proofs.kind.Goals as goal

pub returns-then-at-plan : goal.returns-then-at-plan
returns-then-at-plan c = kind_byte c.args.plan.now c.args.at c.if-at-plan.true

pub returns-else-at-plan : goal.returns-else-at-plan
returns-else-at-plan c = kind_end c.args.plan.now c.args.at c.if-at-plan.false
