-- `push_places` meets its contract: the places that are left give the whole.
use Rattle.eval_front.specs.Loops.{InWalked}
use Rattle.eval_front.proofs.push_places.Given as goal

abbrev pub invariant-loop-w : goal.invariant-loop-w
invariant-loop-w l = InWalked l.cap l.initial.list l.initial.a l.initial.w l.list l.a l.w

abbrev pub decreases-loop-w : goal.decreases-loop-w
decreases-loop-w l = l.w.left
