-- `columns::least` meets its contract. The loop keeps the least place so far.
use Rattle.eval_rows.specs.Columns.{DoneLeast}
use Rattle.eval_rows.proofs.columns.least.Given as goal

abbrev pub invariant-loop-k : goal.invariant-loop-k
invariant-loop-k l = DoneLeast l.column l.n l.from l.z l.q
