-- `front` meets its contract: the query from the node that is reached is the query from the first. The first four bytes of a segment say what it is.
--
use Prim.Native.Nat.{◌-◌}
use lib.ListN.{length}
use Rattle.eval_front.specs.Loops.{InReach}
use Rattle.eval_front.proofs.front.Given as goal

abbrev pub invariant-loop-rest : goal.invariant-loop-rest
invariant-loop-rest l = InReach l.plan l.pool l.table l.text l.node l.pc l.m l.rest

abbrev pub decreases-loop-rest : goal.decreases-loop-rest
decreases-loop-rest l = length l.plan - l.rest
