-- A cursor whose range has the node stays. Another one moves forward from node to node, stops at the parent, and has its kind and depth.
use native.Mathlib.Omega.{arith}
use mathlib.Core.Path.{refl}
use borrow.Author.Rules.{rules}
use Prim.Native.Nat.{◌-◌}
use Rattle.table.specs.Words.{CursorAt}
use Rattle.table.proofs.Cursor.{ranged, cursor_ranged, cursor_inside, next_earlier, next_node, next_inside, next_cursor, parent_stays, parent_found}
use Rattle.table.proofs.scan.to_parent.Goals as goal

pub returns-then-node-cursor : goal.returns-then-node-cursor
returns-then-node-cursor c = let all = parent_stays c.requires.1 c.if-node-cursor.true in record { parent_at = all.0; moved = all.1 }

pub loop-end-init : goal.loop-end-init
loop-end-init c = cursor_ranged c.requires.1

pub child_count-requires : goal.child_count-requires
child_count-requires c = next_node c.requires.0 c.loop-end.invariant c.loop-end-test.true

pub loop-end-preserved : goal.loop-end-preserved
loop-end-preserved c = next_cursor c.requires.0 c.loop-end.invariant c.loop-end-test.true c.child_count.ensures

pub kind-kind-requires : goal.kind-kind-requires
kind-kind-requires c = cursor_inside c.requires.0 c.loop-end.invariant

pub depth-depth-requires : goal.depth-depth-requires
depth-depth-requires c = cursor_inside c.requires.0 c.loop-end.invariant

pub returns : goal.returns
returns c = let all = parent_found c.kind-kind.ensures c.depth-depth.ensures refl c.loop-end.invariant c.loop-end-test.false c.if-node-cursor.false in record { parent_at = all.0; moved = all.1 }
