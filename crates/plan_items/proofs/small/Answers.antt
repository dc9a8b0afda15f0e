-- `plan_items::small` meets its contract.
use Rattle.plan_items.proofs.Laws.{small_short, small_wrong, small_found}
use native.Mathlib.Omega.{arith}
use Rattle.plan_items.proofs.small.Goals as goal

pub returns-then-plan-at : goal.returns-then-plan-at
returns-then-plan-at c = small_short c.args.limit c.args.sort c.if-plan-at.true

pub overflow_cast-n : goal.overflow_cast-n
overflow_cast-n c = omega (arith, c.type_inv.plan c.args.at)

pub returns-then-limit-n : goal.returns-then-limit-n
returns-then-limit-n c = small_wrong c.args.limit c.args.sort c.if-plan-at.false c.if-limit-n.true

pub returns : goal.returns
returns c = small_found c.args.limit c.args.sort c.if-plan-at.false c.if-limit-n.false
