-- `number_order::order_with_shifted` meets its contract: past the room the significand is larger, and within it the shift is exact.
use mathlib.Core.Path.{sym, ap, ◌∙◌}
use Prim.Native.Nat.{ℕ, compare}
use native.Mathlib.Omega.{arith}
use Rattle.number_order.specs.Exact.{answer}
use Rattle.number_order.proofs.Orders.{lt_compare, cmp_compare}
use Rattle.number_order.proofs.Shifts.{past_all, shift_fits}
use Rattle.number_order.proofs.order_with_shifted.Goals as goal

pub returns-then-k-gt-ROOM : goal.returns-then-k-gt-ROOM
returns-then-k-gt-ROOM c = sym (ap answer (lt_compare _ _ (past_all _ _ _ (omega arith) c.requires.0 c.if-k-gt-ROOM.true)))

pub returns : goal.returns
returns c = c.cmp.ensures ∙ cmp_compare _ _ ∙ ap (λ (z : ℕ). answer (compare c.args.n z)) (shift_fits c.args.m c.args.k c.requires.1 c.if-k-gt-ROOM.false)
