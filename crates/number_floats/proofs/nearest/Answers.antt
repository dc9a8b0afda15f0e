-- `number_floats::nearest` meets its contract: one operation where that serves, and the bits that are found everywhere else.
use mathlib.Core.Path.{◌∙◌}
use mathlib.Core.Bool.{true, false}
use Prim.Native.Nat.{◌≤◌}
use native.Mathlib.Omega.{arith}
use lib.IntN.{pos}
use Rattle.number_integers.specs.Signed.{signed}
use Rattle.number_rounding.specs.Decimal.{nearest_zero}
use Rattle.number_floats.proofs.Places.{high_right, low_right, high_place, low_place, scaled, found}
use Rattle.number_floats.proofs.nearest.Goals as goal

pub returns-then-k-le-ONE_POWER : goal.returns-then-k-le-ONE_POWER
returns-then-k-le-ONE_POWER c = scaled _ _ _ _ c.once.ensures

pub returns-then-n-eq0 : goal.returns-then-n-eq0
returns-then-n-eq0 c = rw c.if-n-eq0.true (scaled c.args.negative 0 (signed c.args.low c.args.k) c.once-then-n-eq0.result (c.once-then-n-eq0.ensures ∙ nearest_zero c.args.negative (pos 0) (signed c.args.low c.args.k)))

pub overflow_sub-k : goal.overflow_sub-k
overflow_sub-k c =
    let low-power : c.args.k ≤ 342 = low_right c.args.k (rw c.if-low.true at c.requires) in
    low-power

pub returns-then-low : goal.returns-then-low
returns-then-low c =
    let low-power : c.args.k ≤ 342 = low_right c.args.k (rw c.if-low.true at c.requires) in
    rw c.if-low.true (found c.args.negative c.args.n (signed true c.args.k) c.nearest.result c.with_sign.result (low_place c.args.n c.args.k c.nearest.result low-power c.nearest.ensures) c.with_sign.ensures)

pub overflow_add-k : goal.overflow_add-k
overflow_add-k c =
    let high-power : c.args.k ≤ 308 = high_right c.args.k (rw c.if-low.false at c.requires) in
    let h = high-power in omega arith

pub nearest-requires-2 : goal.nearest-requires-2
nearest-requires-2 c =
    let high-power : c.args.k ≤ 308 = high_right c.args.k (rw c.if-low.false at c.requires) in
    let h = high-power in (omega arith, omega arith)

pub returns : goal.returns
returns c = rw c.if-low.false (found c.args.negative c.args.n (signed false c.args.k) c.nearest-2.result c.with_sign-2.result (high_place c.args.n c.args.k c.nearest-2.result c.nearest-2.ensures) c.with_sign-2.ensures)
