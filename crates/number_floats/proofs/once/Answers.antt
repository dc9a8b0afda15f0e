-- `number_floats::once` meets its contract: the one operation rounds the exact product or quotient.
use Rattle.number_floats.proofs.Operations.{times_nearest, times_number, over_nearest, over_number}
use Rattle.number_floats.proofs.once.Goals as goal

pub float_to_bits-result : goal.float_to_bits-result
float_to_bits-result c = over_number c.args.negative c.args.n c.args.k _ _ c.whole-x.ensures c.power-p.ensures

pub returns-then-low : goal.returns-then-low
returns-then-low c = rw c.if-low.true (over_nearest c.args.negative c.args.n c.args.k _ _ c.whole-x.ensures c.power-p.ensures)

pub float_to_bits-result-2 : goal.float_to_bits-result-2
float_to_bits-result-2 c = times_number c.args.negative c.args.n c.args.k _ _ c.whole-x.ensures c.power-p.ensures

pub returns : goal.returns
returns c = rw c.if-low.false (times_nearest c.args.negative c.args.n c.args.k _ _ c.whole-x.ensures c.power-p.ensures)
