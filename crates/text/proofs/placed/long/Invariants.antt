-- `text::placed::long` meets its contract. The loop's invariant: the bytes that were tested are placed. The measure is what is left.
use Prim.Native.Nat.{◌+◌, ◌-◌, ◌≤◌}
use lib.ListN.{length}
use Rattle.text.specs.Placed.{PlacedIn}
use Rattle.text.proofs.placed.long.Given as goal

abbrev pub invariant-loop-i : goal.invariant-loop-i
invariant-loop-i l = (l.i + 3 ≤ length l.s) × PlacedIn l.s 0 l.i

abbrev pub decreases-loop-i : goal.decreases-loop-i
decreases-loop-i l = length l.s - l.i
