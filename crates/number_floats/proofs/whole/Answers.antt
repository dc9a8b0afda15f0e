-- `number_floats::whole` meets its contract: the cast is exact, and the sign is kept at 0 too.
use Rattle.number_floats.proofs.Operations.{castable, cast_value, negated}
use Rattle.number_floats.proofs.whole.Goals as goal

pub int_to_float-x : goal.int_to_float-x
int_to_float-x c = castable c.args.n c.requires

pub returns-then-negative : goal.returns-then-negative
returns-then-negative c = rw c.if-negative.true (negated _ c.args.n 1 (cast_value c.args.n c.requires))

pub returns : goal.returns
returns c = rw c.if-negative.false (cast_value c.args.n c.requires)
