-- `text_quoted::escapes::unicode` meets its contract. The digits decide: no surrogate, a pair, or a surrogate alone.
use native.Mathlib.Omega.{arith}
use Rattle.utf8_laws.specs.Bytes.{inside, inside_low, inside_high}
use Rattle.text_quoted.proofs.Hexes.{under, beyond}
use Rattle.text_quoted.proofs.Surrogates.{unicode_none, unicode_one, unicode_low, unicode_high, unicode_pair}
use Rattle.text_quoted.proofs.escapes.unicode.Goals as goal

pub returns-in_err-h : goal.returns-in_err-h
returns-in_err-h c = rw c.from_residual.ensures (unicode_none c.args.s.now c.args.at c.in_err-h.ensures)

pub returns-then-h-lt-HIGH_FIRST : goal.returns-then-h-lt-HIGH_FIRST
returns-then-h-lt-HIGH_FIRST c = unicode_one c.args.s.now c.args.at c.in_ok-h.h c.in_ok-h.ensures (under 0xD800 0xDBFF c.in_ok-h.h (omega arith)) (under 0xDC00 0xDFFF c.in_ok-h.h (omega arith))

pub returns-then-h-gt-LOW_LAST : goal.returns-then-h-gt-LOW_LAST
returns-then-h-gt-LOW_LAST c = unicode_one c.args.s.now c.args.at c.in_ok-h.h c.in_ok-h.ensures (beyond 0xD800 0xDBFF c.in_ok-h.h (omega arith)) (beyond 0xDC00 0xDFFF c.in_ok-h.h (omega arith))

pub returns-then-h-ge-LOW_FIRST : goal.returns-then-h-ge-LOW_FIRST
returns-then-h-ge-LOW_FIRST c = unicode_low c.args.s.now c.args.at c.in_ok-h.h c.in_ok-h.ensures (inside 0xDC00 0xDFFF c.in_ok-h.h (omega arith) (omega arith))

pub low_after-requires : goal.low_after-requires
low_after-requires c = omega (arith, c.in_ok-h.ensures.to)

pub returns-in_err-l : goal.returns-in_err-l
returns-in_err-l c =
    rw c.from_residual-in_err-l.ensures
    (unicode_high c.args.s.now c.args.at c.in_ok-h.h c.in_ok-h.ensures (inside 0xD800 0xDBFF c.in_ok-h.h (omega arith) (omega arith)) c.in_err-l.ensures)

pub paired-requires : goal.paired-requires
paired-requires c = omega (arith, inside_low 0xDC00 0xDFFF c.in_ok-l.l c.in_ok-l.ensures.low, inside_high 0xDC00 0xDFFF c.in_ok-l.l c.in_ok-l.ensures.low)

pub returns : goal.returns
returns c = rw c.paired.ensures (unicode_pair c.args.s.now c.args.at c.in_ok-h.h c.in_ok-h.ensures c.in_ok-l.l (inside 0xD800 0xDBFF c.in_ok-h.h (omega arith) (omega arith)) c.in_ok-l.ensures)
