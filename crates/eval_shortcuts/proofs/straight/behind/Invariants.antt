-- `behind` meets its contract.
use Prim.Native.Nat.{◌+◌, ◌-◌, ◌≤◌}
use lib.ListN.{length}
use Rattle.eval_shortcuts.proofs.straight.behind.Given as goal

abbrev pub invariant-loop-q : goal.invariant-loop-q
invariant-loop-q l = l.q ≤ length l.plan + 4

abbrev pub decreases-loop-q : goal.decreases-loop-q
decreases-loop-q l = length l.plan - l.q
