-- `number_leading::nearest` meets its contract: the product's leading word brackets the fraction.
use Rattle.number_leading.proofs.Interval.{bracket, keep, double, top_word}
use native.Mathlib.Omega.{arith}
use Rattle.number_leading.proofs.nearest.Goals as goal

pub overflow_mul-hi : goal.overflow_mul-hi
overflow_mul-hi c = omega (arith, c.if-hi-lt-TOP.true)

pub settle-requires : goal.settle-requires
settle-requires c =
    let t = top_word c.normal-z.result.m c.five-t.result c.wide_mul-hi.result.hi c.wide_mul-hi.result.lo c.wide_mul-hi.ensures.0 c.wide_mul-hi.ensures.1 c.normal-z.ensures.1 c.five-t.ensures.full in
    record { bracket = double c.args.n c.args.i c.normal-z.result.s c.wide_mul-hi.result.hi (bracket c.args.n c.args.i c.normal-z.result.s c.five-t.result c.normal-z.result.m c.wide_mul-hi.result.hi c.wide_mul-hi.result.lo c.five-t.ensures c.wide_mul-hi.ensures.0 c.wide_mul-hi.ensures.1 c.normal-z.ensures.3 (omega (arith, c.normal-z.ensures.1)) c.normal-z.ensures.0); bound = (omega arith, c.requires.1, omega (arith, c.normal-z.ensures.2)) }

pub settle-requires-2 : goal.settle-requires-2
settle-requires-2 c = record { bracket = keep c.args.n c.args.i c.normal-z.result.s c.wide_mul-hi.result.hi (bracket c.args.n c.args.i c.normal-z.result.s c.five-t.result c.normal-z.result.m c.wide_mul-hi.result.hi c.wide_mul-hi.result.lo c.five-t.ensures c.wide_mul-hi.ensures.0 c.wide_mul-hi.ensures.1 c.normal-z.ensures.3 (omega (arith, c.normal-z.ensures.1)) c.normal-z.ensures.0); bound = (c.if-hi-lt-TOP.false, c.requires.1, omega (arith, c.normal-z.ensures.2)) }
