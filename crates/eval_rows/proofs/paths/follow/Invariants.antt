-- `paths::follow` meets its contract: each segment is a name or an index, and leads to one node or to none.
use Prim.Native.Nat.{◌-◌}
use Rattle.eval_rows.specs.Paths.{InFollow}
use Rattle.eval_rows.proofs.paths.follow.Given as goal

abbrev pub invariant-loop-q : goal.invariant-loop-q
invariant-loop-q l = InFollow l.plan l.pool l.table l.text l.node l.pc l.e l.m l.q

abbrev pub decreases-loop-q : goal.decreases-loop-q
decreases-loop-q l = l.e - l.q
