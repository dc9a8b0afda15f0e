-- `number_literals::numeral` meets its contract: an exponent or a fraction makes a float.
use borrow.Author.Tests.{lt-ltb, le-ltb}
use Rattle.number_literals.proofs.numeral.Goals as goal

pub returns-then-given : goal.returns-then-given
returns-then-given c = rw c.if-given.true c.float_literal.ensures

pub returns-then-places-gt0 : goal.returns-then-places-gt0
returns-then-places-gt0 c = rw (c.if-given.false, lt-ltb 0 c.args.places c.if-places-gt0.true) c.float_literal-then-places-gt0.ensures

pub returns : goal.returns
returns c = rw (c.if-given.false, le-ltb 0 c.args.places c.if-places-gt0.false) c.whole_literal.ensures
