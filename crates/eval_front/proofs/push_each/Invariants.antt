-- `push_each` meets its contract: the numbers that are left give the whole.
use Rattle.eval_front.specs.Loops.{InNumbers}
use Rattle.eval_front.proofs.push_each.Given as goal

abbrev pub invariant-loop-j : goal.invariant-loop-j
invariant-loop-j l = InNumbers l.i l.e l.cap l.initial.list l.initial.a l.list l.a l.j
