-- `plan_check::tested` meets its contract.
use Rattle.plan_check.proofs.LawsTest.{tested_literal, tested_alone, tested_deep, tested_value_lem}
use Rattle.plan_check.specs.Loops.{tested_query}
use Rattle.plan_check.proofs.tested.Goals as goal

pub returns-then-a-le1 : goal.returns-then-a-le1
returns-then-a-le1 c = tested_query c.if-a-le1.true

pub returns-then-a-ne3 : goal.returns-then-a-ne3
returns-then-a-ne3 c = tested_literal c.if-a-le1.false c.if-a-ne3.true

pub returns-then-kind-ne-NOT : goal.returns-then-kind-ne-NOT
returns-then-kind-ne-NOT c = tested_alone c.if-a-le1.false c.kind.ensures c.if-kind-ne-NOT.true

pub returns-then-room-a : goal.returns-then-room-a
returns-then-room-a c = tested_deep c.if-a-le1.false c.kind.ensures c.if-room-a.true

pub returns : goal.returns
returns c = tested_value_lem c.if-a-le1.false c.kind.ensures c.if-a-ne3.false c.if-kind-ne-NOT.false c.if-room-a.false
