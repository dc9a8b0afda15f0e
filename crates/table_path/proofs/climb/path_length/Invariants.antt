-- What is counted and the path of the node that is reached are the path, and one.
use native.Mathlib.Omega.{arith}
use borrow.Author.Rules.{rules}
use Prim.Native.Nat.{ℕ, ◌+◌, ◌<◌}
use mathlib.Core.Path.{◌≡◌, ap}
use lib.ListN.{length}
use Rattle.definition.specs.Tables.{node_count}
use Rattle.definition.specs.Paths.{path_of}
use Rattle.table_path_laws.specs.Lengths.{path_short}
use Rattle.table_path.proofs.Steps.{above_earlier, above_in, length_above}
use Rattle.table_path.proofs.Climbs.{child_of, root_length}
use Rattle.table_path.proofs.climb.path_length.Given as goal

abbrev pub invariant-loop-n : goal.invariant-loop-n
invariant-loop-n l = (l.n < node_count l.table) × (l.size + length (path_of l.table l.text l.n) ≡ length (path_of l.table l.text l.node) + 1)

abbrev pub decreases-loop-n : goal.decreases-loop-n
decreases-loop-n l = l.n
