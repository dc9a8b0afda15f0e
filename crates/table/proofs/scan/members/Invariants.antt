-- Every node before the one that is looked at is right, and heads and links stand before it.
use native.Mathlib.Omega.{arith}
use mathlib.Core.Path.{◌≡◌, refl, sym, ap, ◌∙◌}
use borrow.Author.Tests.{lt-ltb}
use lib.Dec.{ltb}
use lib.ListN.{length}
use Prim.Native.Nat.{◌-◌, ◌≤◌, ◌<◌}
use Rattle.definition.specs.Tables.{first_child}
use Rattle.table_laws.specs.Least.{RightBelow}
use Rattle.table.specs.Words.{Kept}
use Rattle.table.proofs.Along.{child_along, next_inside}
use Rattle.table.proofs.Cursor.{found_members, next_first, right_next}
use borrow.Author.Rules.{rules}
use Rattle.table.proofs.scan.members.Given as goal

abbrev pub invariant-loop-node : goal.invariant-loop-node
invariant-loop-node l = (l.start ≤ l.node) × (l.node ≤ l.end) × (l.first ≡ first_child l.table l.node) × RightBelow l.table l.text l.node × Kept l.table l.text l.node l.above l.heads l.links × (length l.heads ≡ length l.initial.heads) × (length l.links ≡ length l.initial.links)
