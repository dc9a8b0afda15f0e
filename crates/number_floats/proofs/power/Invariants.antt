-- `number_floats::power` meets its contract: behind i products stands ten to i.
use mathlib.Core.Bool.{false}
use Prim.Native.Nat.{◌^◌}
use lib.Ieee.Exact.{HasValue}
use Rattle.number_floats.proofs.power.Given as goal

abbrev pub invariant-loop-i : goal.invariant-loop-i
invariant-loop-i l = HasValue l.x false (10 ^ l._i) 1
