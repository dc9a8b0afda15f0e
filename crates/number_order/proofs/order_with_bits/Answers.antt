-- `number_order::order_with_bits` meets its contract: the exponent's field says which way to shift.
use mathlib.Core.Path.{ap, ◌∙◌}
use Prim.Native.Nat.{ℕ, ◌+◌, ◌-◌, ◌*◌, ◌/◌, ◌%◌, ◌^◌, compare}
use native.Mathlib.Omega.{arith}
use Rattle.number_order.specs.Exact.{answer}
use Rattle.number_order.proofs.Shifts.{low_bits, high_bits, with_fraction, no_fraction}
use Rattle.number_order.proofs.order_with_bits.Goals as goal

pub returns-then-x-eq0 : goal.returns-then-x-eq0
returns-then-x-eq0 c = c.order_shifted_with.ensures ∙ ap (λ (z : ℕ). answer (compare (c.args.n * 2 ^ 1074) z)) (low_bits c.args.b c.if-x-eq0.true)

pub returns-then-x-lt-WHOLE : goal.returns-then-x-lt-WHOLE
returns-then-x-lt-WHOLE c =
    let x = c.args.b / 2 ^ 52 in
    c.order_shifted_with-then-x-lt-WHOLE.ensures
    ∙ ap answer (with_fraction c.args.n (2 ^ 52 + c.args.b % 2 ^ 52) x (omega arith) (omega arith))
    ∙ ap (λ (z : ℕ). answer (compare (c.args.n * 2 ^ 1074) (z * 2 ^ (x - 1)))) (high_bits c.args.b c.if-x-eq0.false)

pub returns : goal.returns
returns c =
    let x = c.args.b / 2 ^ 52 in
    c.order_with_shifted.ensures
    ∙ ap answer (no_fraction c.args.n (2 ^ 52 + c.args.b % 2 ^ 52) x (omega arith))
    ∙ ap (λ (z : ℕ). answer (compare (c.args.n * 2 ^ 1074) (z * 2 ^ (x - 1)))) (high_bits c.args.b c.if-x-eq0.false)
