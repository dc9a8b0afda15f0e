-- `text::placed::placed_few` meets its contract. The loop's invariant: while the answer is yes, the bytes that were tested are placed.
use mathlib.Core.Path.{◌≡◌}
use mathlib.Core.Bool.{true}
use Prim.Native.Nat.{◌+◌}
use Rattle.text.specs.Placed.{PlacedIn}
use Rattle.text.proofs.placed.placed_few.Given as goal

abbrev pub invariant-loop-i : goal.invariant-loop-i
invariant-loop-i l = l.right ≡ true → PlacedIn l.s l.at (l.at + l.i)
