-- `plan_items::float` meets its contract.
use Rattle.plan_items.proofs.Laws.{float_tested}
use Rattle.plan_items.proofs.float.Goals as goal

pub returns : goal.returns
returns c = float_tested (λ i. (c.type_inv.plan i).fits) (λ n b k. k) c.number.ensures
