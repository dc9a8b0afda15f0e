-- `number_digits::signed` meets its contract: a negative number is the complement of its magnitude less 1.
use Rattle.number_digits.proofs.Bits.{less_fits, complement_is, zero_is, plus_fits, plus_is}
use Rattle.number_digits.proofs.signed.Goals as goal

pub overflow_cast-result : goal.overflow_cast-result
overflow_cast-result c = less_fits c.args.negative c.args.n c.requires c.if-negative.true c.if-n-gt0.true

pub returns-then-n-gt0 : goal.returns-then-n-gt0
returns-then-n-gt0 c = complement_is c.args.negative c.args.n c.requires c.if-negative.true c.if-n-gt0.true

pub returns-then-negative : goal.returns-then-negative
returns-then-negative c = zero_is c.args.negative c.args.n c.if-n-gt0.false

pub overflow_cast-result-2 : goal.overflow_cast-result-2
overflow_cast-result-2 c = plus_fits c.args.negative c.args.n c.requires c.if-negative.false

pub returns : goal.returns
returns c = plus_is c.args.negative c.args.n c.requires c.if-negative.false
