-- The walk keeps to the list, and has a place fewer with each turn.
use Rattle.slices.specs.Walks.{Inside}
use Rattle.slices_vectors.proofs.print_walk.Given as goal

abbrev pub invariant-loop-w : goal.invariant-loop-w
invariant-loop-w g l = Inside l.n l.w

abbrev pub decreases-loop-w : goal.decreases-loop-w
decreases-loop-w g l = l.w.left
