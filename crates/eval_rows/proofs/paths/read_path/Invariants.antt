-- `paths::read_path` meets its contract: what leads from a segment on leads from the one before it on.
use Prim.Native.Nat.{◌-◌}
use Rattle.definition.specs.Limits.{max_plan}
use Rattle.eval_rows.specs.Paths.{InPath}
use Rattle.eval_rows.proofs.paths.read_path.Given as goal

abbrev pub invariant-loop-q : goal.invariant-loop-q
invariant-loop-q l = InPath l.plan l.pc l.q

abbrev pub decreases-loop-q : goal.decreases-loop-q
decreases-loop-q l = max_plan - l.q
