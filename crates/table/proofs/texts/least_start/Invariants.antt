-- The least start among the maps before the one that is looked at.
use native.Mathlib.Omega.{arith}
use mathlib.Core.Path.{◌≡◌, ap, ◌∙◌}
use Prim.Native.Nat.{◌-◌, ◌≤◌}
use Rattle.table_laws.specs.Starts.{least_start}
use Rattle.table.proofs.Checks.{start_none}
use borrow.Author.Rules.{rules}
use Rattle.table.proofs.texts.least_start.Given as goal

abbrev pub invariant-loop-map : goal.invariant-loop-map
invariant-loop-map l = (l.least ≡ least_start l.table l.node l.map) × (l.map ≤ l.count)
