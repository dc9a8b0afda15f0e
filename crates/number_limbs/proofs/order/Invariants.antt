-- `number_limbs::order` meets its contract: the limbs above the place are the same.
use mathlib.Core.Path.{◌≡◌}
use lib.ListN.{drop}
use Rattle.number_limbs.proofs.order.Given as goal

abbrev pub invariant-loop-i : goal.invariant-loop-i
invariant-loop-i l = drop l.i l.x ≡ drop l.i l.y
