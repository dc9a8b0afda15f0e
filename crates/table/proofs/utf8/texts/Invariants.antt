-- Every text before the one that is looked at is right.
use native.Mathlib.Omega.{arith}
use borrow.Author.Tests.{not-false}
use mathlib.Core.Bool.{true}
use mathlib.Core.Path.{◌≡◌}
use Prim.Native.Nat.{◌-◌}
use Rattle.table.specs.Words.{Behind}
use Rattle.table.proofs.Next.{behind_none, behind_next}
use borrow.Author.Rules.{rules}
use Rattle.table.proofs.utf8.texts.Given as goal

abbrev pub invariant-loop-node : goal.invariant-loop-node
invariant-loop-node l = Behind l.table l.text l.start l.end l.node
