-- `plan_items::number` meets its contract.
use Rattle.plan_items.specs.Readings.{short, failed, passed}
use Rattle.plan_items.proofs.number.Goals as goal

pub returns-then-plan-at-lt-NUMBER_BODY : goal.returns-then-plan-at-lt-NUMBER_BODY
returns-then-plan-at-lt-NUMBER_BODY g c = short c.if-plan-at-lt-NUMBER_BODY.true

pub returns-then-not-test : goal.returns-then-not-test
returns-then-not-test g c = failed c.if-plan-at-lt-NUMBER_BODY.false c.word64-n.ensures c.if-not-test.ensures

pub returns : goal.returns
returns g c = passed c.if-plan-at-lt-NUMBER_BODY.false c.word64-n.ensures c.if-not-test.ensures
