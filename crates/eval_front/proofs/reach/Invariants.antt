-- `reach` meets its contract: the query from the node that is reached is the query from the first. The first four bytes of a segment say what it is.
--
use Prim.Native.Nat.{◌-◌}
use lib.ListN.{length}
use Rattle.eval_front.specs.Loops.{InReach}
use Rattle.eval_front.proofs.reach.Given as goal

abbrev pub invariant-loop-q : goal.invariant-loop-q
invariant-loop-q l = InReach l.plan l.pool l.table l.text l.node l.pc l.m l.q

abbrev pub decreases-loop-q : goal.decreases-loop-q
decreases-loop-q l = length l.plan - l.q
