-- `columns::least` meets its contract. The loop keeps the least place so far.
use native.Mathlib.Omega.{arith}
use Rattle.eval_rows.specs.Columns.{least_lower}
use Rattle.eval_rows.proofs.columns.least.Goals as goal

pub loop-k-init : goal.loop-k-init
loop-k-init c = λ h. absurd (omega arith)

pub offset_bounds-column-k : goal.offset_bounds-column-k
offset_bounds-column-k c = omega (arith, c.requires, c.loop-k-test.true)

pub bounds-column-k : goal.bounds-column-k
bounds-column-k c = omega (arith, c.requires, c.loop-k-test.true)

pub loop-k-preserved : goal.loop-k-preserved
loop-k-preserved c = least_lower c.loop-k.invariant c.loop-k-test.true c.place-c.ensures c.lower-q.ensures

pub returns : goal.returns
returns c = c.loop-k.invariant
