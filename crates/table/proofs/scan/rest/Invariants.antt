-- The pass of this module: its steps are those of every pass over the nodes (`Passes`).
use native.Mathlib.Omega.{arith}
use mathlib.Core.Path.{refl}
use Prim.Native.Nat.{◌-◌}
use Rattle.table.proofs.Passes.{InPass, wrong_found, pass_ends, pass_alone, pass_parent, pass_begun, pass_kept, pass_on, pass_surely, parent_range}
use borrow.Author.Rules.{rules}
use Rattle.table.proofs.scan.rest.Given as goal

abbrev pub invariant-loop-node : goal.invariant-loop-node
invariant-loop-node l = InPass l.table l.text l.initial.heads l.initial.links l.heads l.links l.cursor l.first l.node

abbrev pub decreases-loop-node : goal.decreases-loop-node
decreases-loop-node l = l.count - l.node
