-- A cursor whose range has the node stays. Another one moves forward from node to node, stops at the parent, and has its kind and depth.
use native.Mathlib.Omega.{arith}
use mathlib.Core.Path.{refl}
use borrow.Author.Rules.{rules}
use Prim.Native.Nat.{◌-◌}
use Rattle.table.specs.Words.{CursorAt}
use Rattle.table.proofs.Cursor.{ranged, cursor_ranged, cursor_inside, next_earlier, next_node, next_inside, next_cursor, parent_stays, parent_found}
use Rattle.table.proofs.scan.to_parent.Given as goal

abbrev pub invariant-loop-end : goal.invariant-loop-end
invariant-loop-end l = CursorAt l.table l.node (ranged l.table l.parent l.from l.end)

abbrev pub decreases-loop-end : goal.decreases-loop-end
decreases-loop-end l = l.node - l.parent
