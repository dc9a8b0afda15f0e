-- The measures and invariants of the cycle of calls {same_elements, same_members, same_nodes, same_values}.
use Prim.Native.Nat.{◌+◌, ◌-◌, ◌*◌, ◌≤◌}
use Rattle.definition.specs.Tables.{depth_at}
use Rattle.eval_values.specs.Means.{height}
use Rattle.table_laws.specs.Nodes.{kids, kids_at}
use Rattle.definition.specs.Compare.{same_elements, same_members}
use mathlib.Core.Path.{◌≡◌}
use Rattle.eval_values.proofs.+equality.Given as goal

abbrev pub decreases-same_elements : goal.decreases-same_elements
decreases-same_elements l = 4 * (64 - depth_at l.table.now l.i) + 1

abbrev pub decreases-same_members : goal.decreases-same_members
decreases-same_members l = 4 * (64 - depth_at l.table.now l.i) + 1

abbrev pub decreases-same_nodes : goal.decreases-same_nodes
decreases-same_nodes l = 4 * (64 - depth_at l.table.now l.i) + 2

abbrev pub decreases-same_values : goal.decreases-same_values
decreases-same_values l = height l.table.now l.x

abbrev pub invariant-same_elements-loop-k : goal.invariant-same_elements-loop-k
invariant-same_elements-loop-k l = (same_elements (kids l.table l.text (l.a + l.k) (l.count - l.k)) (kids l.table l.text (l.b + l.k) (l.count - l.k)) ≡ same_elements (kids l.table l.text l.a l.count) (kids l.table l.text l.b l.count)) × (l.k ≤ l.count)

abbrev pub invariant-same_members-loop-k : goal.invariant-same_members-loop-k
invariant-same_members-loop-k l = (same_members (kids l.table l.text (l.a + l.k) (l.count - l.k)) (kids_at l.table l.text l.j) ≡ same_members (kids l.table l.text l.a l.count) (kids_at l.table l.text l.j)) × (l.k ≤ l.count)
