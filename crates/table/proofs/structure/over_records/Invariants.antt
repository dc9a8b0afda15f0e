-- All records before the one that is looked at are right.
use native.Mathlib.Omega.{arith}
use borrow.Author.Tests.{not-true, not-false}
use mathlib.Core.Path.{◌≡◌, sym, ◌∙◌}
use Prim.Native.Nat.{◌-◌, ◌≤◌}
use Rattle.definition.specs.Tables.{node_count, first_child, record_right}
use Rattle.table_laws.specs.Counts.{counts_root}
use Rattle.table_laws.specs.Failing.{least_found, none_fails}
use Rattle.table_laws.specs.Records.{RecordsBelow}
use Rattle.table.specs.Outcomes.{found}
use Rattle.table.proofs.Checks.{record_next}
use borrow.Author.Rules.{rules}
use Rattle.table.proofs.structure.over_records.Given as goal

abbrev pub invariant-loop-node : goal.invariant-loop-node
invariant-loop-node l = (l.first ≡ first_child l.table l.node) × (l.first ≤ node_count l.table) × RecordsBelow l.table l.node
