-- The loop's invariant: the keys above the present node are unlike the key, and the node is in the key's bucket or below the first one.
-- So many steps were made as nodes may have been passed. The measure is the present node: links lead downwards.
use native.Mathlib.Omega.{arith}
use mathlib.Core.Path.{◌≡◌, sym, ◌∙◌, ap}
use Prim.Native.Nat.{◌+◌, ◌-◌, ◌≤◌}
use borrow.Author.Tests.{lt-ltb}
use Rattle.definition.specs.Bytes.{same_bytes}
use Rattle.definition.specs.Tables.{key_bytes}
use Rattle.table.proofs.Inside.{one_key}
use Rattle.table.proofs.Follows.{Following, follow_begins, follow_on, differs_all, differs_not}
use Rattle.table.proofs.keys.chain_differs.Given as goal

abbrev pub invariant-loop-j : goal.invariant-loop-j
invariant-loop-j l = Following l.table l.text l.node l.from l.links l.j × (1 ≤ l.steps) × (l.steps + l.j ≤ l.head + 1)

abbrev pub decreases-loop-j : goal.decreases-loop-j
decreases-loop-j l = l.j
