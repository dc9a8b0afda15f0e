-- `next_container` meets its contract: each node that is passed is neither list nor map.
use Prim.Native.Nat.{◌-◌}
use Rattle.eval_front.specs.Loops.{InPassed}
use Rattle.eval_front.proofs.next_container.Given as goal

abbrev pub invariant-loop-j : goal.invariant-loop-j
invariant-loop-j l = InPassed l.table l.i l.e l.j

abbrev pub decreases-loop-j : goal.decreases-loop-j
decreases-loop-j l = l.e - l.j
