-- `rows::keep` meets its contract. The loop keeps the nodes that are left, of which those for which the test fails emit nothing; or the cells.
use mathlib.Core.Path.{◌≡◌}
use lib.ListN.{length}
use Rattle.eval_rows.specs.Known.{Held}
use Rattle.eval_rows.specs.Columns.{InPass}
use Rattle.eval_rows.proofs.rows.keep.Given as goal

abbrev pub invariant-loop-j : goal.invariant-loop-j
invariant-loop-j l = InPass l.plan l.pool l.table l.text l.in_cells l.root l.i l.e l.p l.z l.rest l.cap l.initial.list l.initial.a l.list l.a l.j × ((length l.edges ≡ length l.initial.edges) × ((length l.sets ≡ length l.initial.sets) × ((length l.marks ≡ length l.initial.marks) × Held l.code l.edges l.sets l.known)))
