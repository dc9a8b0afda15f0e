-- `cells::lay` meets its contract. The loop keeps the cells that are laid.
use mathlib.Core.Path.{◌≡◌}
use lib.ListN.{length}
use Rattle.eval_asks.specs.Cells.{Laid}
use Rattle.eval_asks.proofs.cells.lay.Given as goal

abbrev pub invariant-loop-k : goal.invariant-loop-k
invariant-loop-k l = Laid l.k l.p l.column × (length l.column ≡ length l.initial.column)
