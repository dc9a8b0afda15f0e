-- What is copied stands in the room.
use Rattle.std.proofs.Common.{◌≤◌}
use Rattle.plan_check_vectors.proofs.repeat.Given as goal

abbrev pub invariant-loop-i : goal.invariant-loop-i
invariant-loop-i l = l.back ≤ l.i
