-- `push_along` meets its contract.
use Prim.Native.Nat.{◌-◌}
use Rattle.eval_shortcuts.specs.Alongs.{InAlong}
use Rattle.eval_shortcuts.proofs.straight.push_along.Given as goal

abbrev pub invariant-loop-j : goal.invariant-loop-j
invariant-loop-j l = InAlong l.plan l.pool l.table l.text l.i l.e l.rest l.cap l.initial.list l.initial.a l.list l.a l.j

abbrev pub decreases-loop-j : goal.decreases-loop-j
decreases-loop-j l = l.e - l.j
