-- `plan_items::bound` meets its contract.
use Rattle.plan_items.proofs.Sliced.{bound_absent, bound_given}
use mathlib.Core.Path.{refl, sym}
use native.Mathlib.Omega.{arith}
use Rattle.plan_items.proofs.bound.Goals as goal

pub returns-then-flag-eq0 : goal.returns-then-flag-eq0
returns-then-flag-eq0 c = bound_absent (λ i. (c.type_inv.plan i).fits) c.requires.0 c.word64-n.ensures c.if-flag-eq0.true _ refl

pub returns : goal.returns
returns c = bound_given (λ i. (c.type_inv.plan i).fits) c.requires.0 c.word64-n.ensures (omega arith) _ (sym c.in_range.ensures)
