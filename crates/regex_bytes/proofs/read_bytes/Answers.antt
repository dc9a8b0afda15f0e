-- `regex_bytes::read_bytes` meets its contract.
use Rattle.basics.specs.Stores.{wrote_length}
use Rattle.regex_bytes.proofs.OfBytes.{written, counted, bytes_long, bytes_read}
use native.Mathlib.Omega.{arith}
use Rattle.regex_bytes.proofs.read_bytes.Goals as goal

pub returns-then-s-gt-MAX_EXPRESSION : goal.returns-then-s-gt-MAX_EXPRESSION
returns-then-s-gt-MAX_EXPRESSION c = bytes_long c.args.s.now _ _ _ c.if-s-gt-MAX_EXPRESSION.true

pub scalars-n-requires : goal.scalars-n-requires
scalars-n-requires c = (c.requires.s_in_bounds c.if-s-gt-MAX_EXPRESSION.false).0

pub slice_bounds-read-end : goal.slice_bounds-read-end
slice_bounds-read-end c = omega (arith, (c.requires.s_in_bounds c.if-s-gt-MAX_EXPRESSION.false).0, c.scalars-n.ensures.few, wrote_length c.scalars-n.ensures.buf)

pub slice_bounds-read-end-2 : goal.slice_bounds-read-end-2
slice_bounds-read-end-2 c = counted c.scalars-n.ensures (c.requires.s_in_bounds c.if-s-gt-MAX_EXPRESSION.false).0

pub read-requires : goal.read-requires
read-requires c =
    let g = c.requires.s_in_bounds c.if-s-gt-MAX_EXPRESSION.false in
    let k = counted c.scalars-n.ensures g.0 in
    (omega (arith, k, c.scalars-n.ensures.few, c.if-s-gt-MAX_EXPRESSION.false), omega (arith, k, c.scalars-n.ensures.few, g.1))

pub returns : goal.returns
returns c = bytes_read _ c.requires.s_value c.if-s-gt-MAX_EXPRESSION.false (written c.scalars-n.ensures (c.requires.s_in_bounds c.if-s-gt-MAX_EXPRESSION.false).0) c.read.ensures
