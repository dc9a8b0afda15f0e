-- The steps behind the node that is reached are put.
use native.Mathlib.Omega.{arith}
use borrow.Author.Rules.{rules}
use mathlib.Core.Path.{◌∙◌}
use lib.ListN.{length-set}
use Rattle.table_path.proofs.Steps.{above_earlier}
use Rattle.table_path.proofs.Climbs.{Climbed, child_of, climb_start, climb_room, climb_to, root_room, climb_end}
use Rattle.table_path.proofs.climb.write_path.Goals as goal

pub loop-n-init : goal.loop-n-init
loop-n-init c = climb_start _ _ c.requires.node_of

pub put_step-end-requires : goal.put_step-end-requires
put_step-end-requires c = record { child_of = child_of c.requires.node_of c.loop-n.invariant.node_in c.loop-n-test.true; room = climb_room c.loop-n.invariant c.requires.size_value.0 (child_of c.requires.node_of c.loop-n.invariant.node_in c.loop-n-test.true) c.requires.size_value.1 }

pub parent-n-requires : goal.parent-n-requires
parent-n-requires c = c.loop-n.invariant.node_in

pub loop-n-smaller : goal.loop-n-smaller
loop-n-smaller c = omega (arith, c.parent-n.ensures, above_earlier (child_of c.requires.node_of c.loop-n.invariant.node_in c.loop-n-test.true))

pub loop-n-preserved : goal.loop-n-preserved
loop-n-preserved c = climb_to c.loop-n.invariant c.requires.size_value.0 (child_of c.requires.node_of c.loop-n.invariant.node_in c.loop-n-test.true) _ c.parent-n.ensures c.put_step-end.ensures

pub bounds-room-0 : goal.bounds-room-0
bounds-room-0 c = root_room c.loop-n.invariant c.requires.size_value.0 (omega arith) c.requires.size_value.1

pub shape_of-room : goal.shape_of-room
shape_of-room c = length-set c.loop-n.room 0 0x24 ∙ c.loop-n.invariant.put.same

pub returns : goal.returns
returns c = climb_end c.loop-n.invariant c.requires.size_value.0 (omega arith) c.requires.size_value.1
