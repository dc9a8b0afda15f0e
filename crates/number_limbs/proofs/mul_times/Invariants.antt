-- `number_limbs::mul_times` meets its contract: each turn is one product, and nothing runs over the end.
use mathlib.Core.Path.{◌≡◌}
use Prim.Native.Nat.{◌-◌, ◌*◌, ◌^◌, ◌≤◌}
use lib.ListN.{length}
use Rattle.number_limbs.specs.Limbs.{value, Limbs}
use Rattle.number_limbs.proofs.mul_times.Given as goal

abbrev pub invariant-loop-j : goal.invariant-loop-j
invariant-loop-j l = (length l.x ≡ length l.initial.x) × Limbs l.x × (value l.x ≡ value l.initial.x * l.m ^ l._j)
