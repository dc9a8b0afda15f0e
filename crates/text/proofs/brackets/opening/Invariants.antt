-- `text::brackets::opening` meets its contract. What was counted and what is left give the whole.
use Prim.Native.Nat.{◌+◌, ◌≤◌}
use mathlib.Core.Path.{◌≡◌}
use lib.ListN.{drop}
use Rattle.text.specs.Places.{opening_in}
use Rattle.text.proofs.brackets.opening.Given as goal

abbrev pub invariant-loop-b : goal.invariant-loop-b
invariant-loop-b l = (l.n ≤ l.b-index) × (l.n + opening_in (drop l.b-index l.s) ≡ opening_in l.s)
