-- `joined::asked` meets its contract. The loop keeps that what is left of the filter's code gives the test's answer.
use Prim.Native.Nat.{◌-◌}
use Rattle.eval_shortcuts.specs.Joined.{InJoined}
use Rattle.eval_shortcuts.proofs.joined.asked.Given as goal

abbrev pub invariant-loop-q : goal.invariant-loop-q
invariant-loop-q l = InJoined l.plan l.pool l.table l.text l.root l.node l.p l.z l.acc l.q

abbrev pub decreases-loop-q : goal.decreases-loop-q
decreases-loop-q l = l.z - l.q
