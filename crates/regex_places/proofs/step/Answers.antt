-- `regex_places::step` meets its contract.
use Rattle.regex_places.proofs.Sets.{moving_start, moving_on, moving_end, moving_none}
use mathlib.Core.Path.{◌≡◌}
use Prim.Native.Nat.{◌+◌, ◌-◌}
use native.Mathlib.Omega.{arith}
use Rattle.regex_places.proofs.step.Goals as goal

pub loop-i-init : goal.loop-i-init
loop-i-init c = moving_start

pub bounds-text-i : goal.bounds-text-i
bounds-text-i c = omega (arith, c.loop-i.invariant.few)

pub bounds-set-i : goal.bounds-set-i
bounds-set-i c = omega (arith, c.loop-i.invariant.few, c.loop-i.invariant.long, c.requires.fact_3.room)

pub moved-requires : goal.moved-requires
moved-requires c = c.requires.fact_1

pub bounds-set-i-in-loop-i : goal.bounds-set-i-in-loop-i
bounds-set-i-in-loop-i c = omega (arith, c.loop-i.invariant.few, c.loop-i.invariant.long, c.requires.fact_3.room)

pub loop-i-preserved : goal.loop-i-preserved
loop-i-preserved c = let e : c.loop-i.i - 1 + 1 ≡ c.loop-i.i = omega arith in rw e (moving_on c.loop-i.i _ (omega arith) c.requires.fact_3.room c.loop-i.invariant c.moved.ensures)

pub bounds-set-0 : goal.bounds-set-0
bounds-set-0 c = omega (arith, c.loop-i.invariant.long, c.requires.fact_3.room)

pub shape_of-set : goal.shape_of-set
shape_of-set c = (moving_end (record { here = c.requires.fact_1; is = c.requires.fact_2 }) c.requires.fact_3.room (moving_none (omega arith) c.loop-i.invariant)).long

pub returns : goal.returns
returns c = moving_end (record { here = c.requires.fact_1; is = c.requires.fact_2 }) c.requires.fact_3.room (moving_none (omega arith) c.loop-i.invariant)
