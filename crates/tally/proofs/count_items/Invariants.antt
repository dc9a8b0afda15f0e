-- `tally::count_items` meets its contract: what was counted and what is left come to all items.
use Prim.Native.Nat.{◌+◌, ◌-◌, ◌≤◌}
use lib.ListN.{length}
use Rattle.tally.proofs.Laws.{Going}
use Rattle.tally.proofs.count_items.Given as goal

abbrev pub invariant-loop-at : goal.invariant-loop-at
invariant-loop-at l = (l.at ≤ length l.plan + 25) × Going l.plan l.at l.counts

abbrev pub decreases-loop-at : goal.decreases-loop-at
decreases-loop-at l = length l.plan + 26 - l.at
