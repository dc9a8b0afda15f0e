-- `text::brackets::counted` meets its contract. The loop's invariant: the count is at most 32, and from the place and the count on the rest is too deep
-- if and only if the whole text is.
use mathlib.Core.Path.{◌≡◌}
use Prim.Native.Nat.{◌≤◌}
use lib.ListN.{drop}
use Rattle.definition.specs.Brackets.{too_deep, too_deep_from}
use Rattle.definition.specs.Limits.{max_brackets}
use Rattle.text.specs.Places.{place_of}
use Rattle.text.proofs.brackets.counted.Given as goal

abbrev pub invariant-loop-i : goal.invariant-loop-i
invariant-loop-i l = (l.n ≤ max_brackets) × (too_deep l.s ≡ too_deep_from (place_of l.p) l.n (drop l.i l.s))
