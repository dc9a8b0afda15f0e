-- `number_floats::power` meets its contract: behind i products stands ten to i.
use native.Mathlib.Omega.{arith}
use mathlib.Core.Path.{◌≡◌, subst}
use mathlib.Core.Bool.{false}
use Prim.Native.Nat.{ℕ, ◌^◌}
use lib.Ieee.Exact.{HasValue}
use Rattle.number_floats.proofs.Powers.{one_value, power_step}
use Rattle.number_floats.proofs.power.Goals as goal

pub loop-i-init : goal.loop-i-init
loop-i-init c = one_value

pub loop-i-preserved : goal.loop-i-preserved
loop-i-preserved c = power_step c.loop-i._i c.loop-i.x (omega arith) c.loop-i.invariant

pub returns : goal.returns
returns c =
    let e : c.loop-i._i ≡ c.args.k = omega arith in
    subst (λ (j : ℕ). HasValue c.loop-i.x false (10 ^ j) 1) e c.loop-i.invariant
