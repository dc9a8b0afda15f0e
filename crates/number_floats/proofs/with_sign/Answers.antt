-- `number_floats::with_sign` meets its contract.
use mathlib.Core.Path.{refl, sym}
use native.Mathlib.Nat.{zero-add}
use Rattle.number_floats.proofs.with_sign.Goals as goal

pub returns-then-negative : goal.returns-then-negative
returns-then-negative c = rw c.if-negative.true refl

pub returns : goal.returns
returns c = rw c.if-negative.false (sym (zero-add c.args.bits))
