-- Every text before the one that is looked at is right.
use native.Mathlib.Omega.{arith}
use borrow.Author.Tests.{not-false}
use mathlib.Core.Bool.{true}
use mathlib.Core.Path.{◌≡◌}
use Prim.Native.Nat.{◌-◌, ◌≤◌}
use Rattle.table.specs.Words.{Front}
use Rattle.table.proofs.Front.{front_root, front_next}
use borrow.Author.Rules.{rules}
use Rattle.table.proofs.scan.root_texts.Given as goal

abbrev pub invariant-loop-node : goal.invariant-loop-node
invariant-loop-node l = (l.node ≤ l.end) × Front l.table l.text l.node
