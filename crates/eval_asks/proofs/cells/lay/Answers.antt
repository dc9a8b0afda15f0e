-- `cells::lay` meets its contract. The loop keeps the cells that are laid.
use mathlib.Core.Path.{refl, ◌∙◌}
use lib.ListN.{length-set}
use native.Mathlib.Omega.{arith}
use Rattle.eval_asks.specs.Cells.{laid_more}
use Rattle.eval_asks.proofs.cells.lay.Goals as goal

pub loop-k-init : goal.loop-k-init
loop-k-init c = (λ m h. absurd (omega arith), refl)

pub loop-k-preserved : goal.loop-k-preserved
loop-k-preserved c = (laid_more c.loop-k.column c.loop-k.invariant.0 (omega (arith, c.requires.0, c.loop-k-test.true)), length-set c.loop-k.column c.loop-k.k c.args.p ∙ c.loop-k.invariant.1)
