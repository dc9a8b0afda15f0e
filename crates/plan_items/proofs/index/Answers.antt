-- `plan_items::index` meets its contract.
use Rattle.definition.specs.Literals.{in_range}
use Rattle.definition_bytes.specs.Numbers.{range_inside}
use Rattle.plan_items.proofs.Laws.{integer_tested}
use Rattle.plan_items.proofs.index.Goals as goal

pub returns : goal.returns
returns c = integer_tested in_range 1 (λ i. (c.type_inv.plan i).fits) range_inside (λ n b h k. k) c.number.ensures
