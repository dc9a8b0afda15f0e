-- The keys before the node are compared in turn: what is left to compare gives the answer for all.
use native.Mathlib.Omega.{arith}
use borrow.Author.Rules.{rules}
use mathlib.Core.Path.{◌≡◌, refl, sym, ◌∙◌, ap}
use Prim.Native.Nat.{◌+◌, ◌-◌, ◌≤◌}
use Rattle.definition.specs.Bytes.{same_bytes}
use Rattle.definition.specs.Tables.{key_bytes, key_differs}
use Rattle.table_laws.specs.Keys.{key_span, differs_same, differs_step, differs_end}
use Rattle.table.proofs.Inside.{one_key}
use Rattle.table.proofs.keys.key_differs.Given as goal

abbrev pub invariant-loop-j : goal.invariant-loop-j
invariant-loop-j l = (l.from ≤ l.j) × (l.key ≡ key_bytes l.table l.text l.node) × (key_differs l.table l.text l.node l.j (l.node - l.j) ≡ key_differs l.table l.text l.node l.from (l.node - l.from))
