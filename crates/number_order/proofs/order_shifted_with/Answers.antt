-- `number_order::order_shifted_with` meets its contract: past the digits only 0 is not larger, and within them the quotient decides.
use mathlib.Core.Path.{◌≡◌, sym, ap, ◌∙◌}
use Prim.Native.Nat.{ℕ, ◌*◌, ◌^◌, compare}
use native.Mathlib.Nat.{zero-mul}
use native.Mathlib.Omega.{arith}
use Rattle.number_order.specs.Exact.{answer}
use Rattle.number_order.proofs.Orders.{gt_compare, cmp_compare}
use Rattle.number_order.proofs.Shifts.{past_digits, back_fits, by_quotient}
use Rattle.number_order.proofs.order_shifted_with.Goals as goal

pub returns-then-n-gt0 : goal.returns-then-n-gt0
returns-then-n-gt0 c = sym (ap answer (gt_compare _ _ (past_digits _ _ _ c.if-n-gt0.true c.requires c.if-k-gt-DIGITS.true)))

pub returns-then-k-gt-DIGITS : goal.returns-then-k-gt-DIGITS
returns-then-k-gt-DIGITS c =
    let z : 0 ≡ c.args.n = omega arith in
    c.cmp.ensures ∙ cmp_compare 0 c.args.m ∙ ap (λ (x : ℕ). answer (compare x c.args.m)) (sym (zero-mul (2 ^ c.args.k)) ∙ ap (λ (x : ℕ). x * 2 ^ c.args.k) z)

pub returns : goal.returns
returns c = c.then.ensures ∙ rw (c.cmp-2.ensures, c.cmp-3.ensures, back_fits c.args.m c.args.k c.requires) (by_quotient c.args.n c.args.m c.args.k)
