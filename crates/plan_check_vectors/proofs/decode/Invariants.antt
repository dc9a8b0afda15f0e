-- The room keeps its length, and what is spelled so far stands in it.
use Rattle.std.proofs.Common.{length, ◌≡◌, ◌≤◌, ◌-◌}
use Rattle.plan_check_vectors.proofs.decode.Given as goal

abbrev pub invariant-loop-at : goal.invariant-loop-at
invariant-loop-at l = (l.n ≤ length l.d) × (length l.d ≡ length l.initial.d)

abbrev pub decreases-loop-at : goal.decreases-loop-at
decreases-loop-at l = length l.s - l.at
