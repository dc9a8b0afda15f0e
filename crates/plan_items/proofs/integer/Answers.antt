-- `plan_items::integer` meets its contract: every number is inside two's complement.
use mathlib.Core.Path.{sym, ◌∙◌}
use Rattle.definition.specs.QueryForms.{inside_i64}
use Rattle.plan_items.proofs.Laws.{integer_tested, signed_inside}
use Rattle.plan_items.proofs.integer.Goals as goal

pub returns : goal.returns
returns c = integer_tested inside_i64 2 (λ i. (c.type_inv.plan i).fits) (λ z h. h) (λ n b h k. k ∙ sym (signed_inside n h)) c.number.ensures
