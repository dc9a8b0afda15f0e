-- What is counted and the path of the node that is reached are the path, and one.
use native.Mathlib.Omega.{arith}
use borrow.Author.Rules.{rules}
use Prim.Native.Nat.{ℕ, ◌+◌, ◌<◌}
use mathlib.Core.Path.{◌≡◌, ap}
use lib.ListN.{length}
use Rattle.definition.specs.Tables.{node_count}
use Rattle.definition.specs.Paths.{path_of}
use Rattle.table_path_laws.specs.Lengths.{path_short}
use Rattle.table_path.proofs.Steps.{above_earlier, above_in, length_above}
use Rattle.table_path.proofs.Climbs.{child_of, root_length}
use Rattle.table_path.proofs.climb.path_length.Goals as goal

pub loop-n-init : goal.loop-n-init
loop-n-init c = (c.requires.node_in, omega arith)

pub step_length-size-requires : goal.step_length-size-requires
step_length-size-requires c = child_of c.requires c.loop-n.invariant.0 c.loop-n-test.true

pub overflow_add-size : goal.overflow_add-size
overflow_add-size c = omega (arith, c.step_length-size.ensures, length_above (child_of c.requires c.loop-n.invariant.0 c.loop-n-test.true), path_short _ _ c.requires.table c.args.node c.requires.node_in)

pub parent-n-requires : goal.parent-n-requires
parent-n-requires c = c.loop-n.invariant.0

pub loop-n-smaller : goal.loop-n-smaller
loop-n-smaller c = omega (arith, c.parent-n.ensures, above_earlier (child_of c.requires c.loop-n.invariant.0 c.loop-n-test.true))

pub loop-n-preserved : goal.loop-n-preserved
loop-n-preserved c = (omega (arith, c.parent-n.ensures, above_in (child_of c.requires c.loop-n.invariant.0 c.loop-n-test.true)), omega (arith, c.step_length-size.ensures, length_above (child_of c.requires c.loop-n.invariant.0 c.loop-n-test.true), ap (λ (x : ℕ). length (path_of c.args.table.now c.args.text.now x)) c.parent-n.ensures))

pub returns : goal.returns
returns c = omega (arith, root_length c.args.table.now c.args.text.now c.loop-n.n (omega arith))
