-- `text::encoding::continues` meets its contract.
use native.Mathlib.Omega.{arith}
use Prim.Native.Nat.{◌≤◌}
use Rattle.utf8_laws.specs.Scalars.{continuing, continues_inside, begins_below, begins_above}
use Rattle.text.proofs.encoding.continues.Goals as goal

pub returns-then-b-lt128 : goal.returns-then-b-lt128
unfolding continuing
returns-then-b-lt128 c = rw (begins_below _ c.if-b-lt128.true)

pub returns-then-b-le191 : goal.returns-then-b-le191
unfolding continuing
returns-then-b-le191 c = rw (continues_inside _ c.if-b-lt128.false c.if-b-le191.true)

pub returns : goal.returns
unfolding continuing
returns c =
    let g : 0xC0 ≤ c.args.b = omega arith in
    rw (begins_above _ g)
