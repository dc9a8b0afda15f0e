-- `plan_items::calls` meets its contract.
use Rattle.plan_items.proofs.Called.{Going}
use lib.ListN.{length}
use Prim.Native.Nat.{◌-◌}
use Rattle.plan_items.proofs.calls.Given as goal

abbrev pub invariant-loop-room : goal.invariant-loop-room
invariant-loop-room l = Going l.plan l.room l.initial.at l.p l.initial.h l.initial.sort l.at l.h l.sort

abbrev pub decreases-loop-room : goal.decreases-loop-room
decreases-loop-room l = length l.plan - l.at
