-- `joined::keep` meets its contract. The loop keeps the nodes that are left; a node for which the test fails emits nothing.
use Rattle.eval_filters.specs.Kept.{InKept}
use Rattle.eval_shortcuts.proofs.joined.keep.Given as goal

abbrev pub invariant-loop-j : goal.invariant-loop-j
invariant-loop-j l = InKept l.plan l.pool l.table l.text l.root l.i l.e l.p l.z l.rest l.cap l.initial.list l.initial.a l.list l.a l.j
