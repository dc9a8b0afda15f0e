-- `fill` meets its contract. The loop keeps the cells, and the place at which it is is later and one of them stands there.
use Prim.Native.Nat.{◌-◌, ◌≤◌, ◌<◌}
use mathlib.Core.Path.{◌≡◌}
use lib.ListN.{length}
use Rattle.eval_asks.specs.Cells.{Column}
use Rattle.eval_rows.specs.Columns.{Standing}
use Rattle.eval_rows.proofs.fill.Given as goal

abbrev pub invariant-loop-q : goal.invariant-loop-q
invariant-loop-q l = Column l.plan l.pool l.table l.text l.root l.i l.e l.p l.z l.column × ((length l.column ≡ length l.initial.column) × (l.q < l.z → (l.from ≤ l.q) × Standing l.column (l.e - l.i) l.q))

abbrev pub decreases-loop-q : goal.decreases-loop-q
decreases-loop-q l = l.z - l.q
