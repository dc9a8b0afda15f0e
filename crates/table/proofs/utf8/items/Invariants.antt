-- Every node before the one that is looked at is right, and the place where its children must begin is known.
use native.Mathlib.Omega.{arith}
use mathlib.Core.Path.{◌≡◌, refl, sym, ◌∙◌}
use Prim.Native.Nat.{◌-◌, ◌≤◌}
use Rattle.definition.specs.Tables.{child_count, first_child}
use Rattle.table_laws.specs.Least.{RightBelow}
use Rattle.table.proofs.Along.{child_along}
use Rattle.table.proofs.Cursor.{next_first, right_next}
use borrow.Author.Rules.{rules}
use Rattle.table.proofs.utf8.items.Given as goal

abbrev pub invariant-loop-node : goal.invariant-loop-node
invariant-loop-node l = (l.start ≤ l.node) × (l.node ≤ l.end) × (l.first ≡ first_child l.table l.node) × RightBelow l.table l.text l.node
