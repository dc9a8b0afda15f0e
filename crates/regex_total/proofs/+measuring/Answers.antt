-- The answers of the cycle of calls {copied, in_a_row, looped, measure, one_of}.
use Rattle.regex_total.proofs.Lengths.{span_short, span_upto, capped_both, span_then, span_any, span_nothing, span_empty, span_class, span_other, span_or}
use native.Mathlib.Omega.{arith}
use Rattle.regex_total.proofs.+measuring.Goals as goal

-- copied
pub copied-returns-then-code-at-lt3 : goal.copied-returns-then-code-at-lt3
copied-returns-then-code-at-lt3 t c = rw c.no_width.ensures (span_short _ _ c.requires.0 (omega (arith, c.requires.1)) c.if-code-at-lt3.true)

-- copied
pub copied-measure-a-requires : goal.copied-measure-a-requires
copied-measure-a-requires t c = (omega (arith, c.decreases, c.requires.0, c.if-code-at-lt3.false), tt)

-- copied
pub copied-returns-then-a-lt2147483648 : goal.copied-returns-then-a-lt2147483648
copied-returns-then-a-lt2147483648 t c = span_upto _ _ c.requires.0 c.requires.1 c.measure-a.ensures c.wide-lo.ensures.0 c.wide-hi.ensures.0 c.capped.ensures c.capped-then-a-lt2147483648.ensures.fits (capped_both _ c.if-a-lt2147483648.true c.capped-then-a-lt2147483648.ensures)

-- copied
pub copied-returns : goal.copied-returns
copied-returns t c = span_upto _ _ c.requires.0 c.requires.1 c.measure-a.ensures c.wide-lo.ensures.0 c.wide-hi.ensures.0 c.capped-2.ensures (omega arith) (λ h. absurd (omega arith))

-- in_a_row
pub in_a_row-measure-a-requires : goal.in_a_row-measure-a-requires
in_a_row-measure-a-requires t c = (omega (arith, c.decreases, c.requires.0), tt)

-- in_a_row
pub in_a_row-measure-b-requires : goal.in_a_row-measure-b-requires
in_a_row-measure-b-requires t c = (omega (arith, c.decreases, c.requires.0, c.measure-a.ensures.from), tt)

-- in_a_row
pub in_a_row-returns : goal.in_a_row-returns
in_a_row-returns t c = span_then _ _ c.requires.0 c.measure-a.ensures c.measure-b.ensures c.requires.1 c.capped.ensures c.capped-2.ensures

-- looped
pub looped-returns-then-code-at-lt3 : goal.looped-returns-then-code-at-lt3
looped-returns-then-code-at-lt3 t c = rw c.no_width.ensures (span_short _ _ c.requires.0 (omega (arith, c.requires.1)) c.if-code-at-lt3.true)

-- looped
pub looped-measure-a-requires : goal.looped-measure-a-requires
looped-measure-a-requires t c = (omega (arith, c.decreases, c.requires.0, c.if-code-at-lt3.false), tt)

-- looped
pub looped-returns : goal.looped-returns
looped-returns t c = span_any _ _ c.requires.0 c.requires.1 c.measure-a.ensures c.wide-lo.ensures.0 c.capped.ensures

-- measure
pub measure-returns-then-code-at : goal.measure-returns-then-code-at
measure-returns-then-code-at t c = rw c.no_width.ensures (span_nothing _ _ c.if-code-at.true)

-- measure
pub measure-returns-then-k-eq0 : goal.measure-returns-then-k-eq0
measure-returns-then-k-eq0 t c = rw c.no_width-then-k-eq0.ensures (span_empty _ _ c.if-code-at.false c.if-k-eq0.true)

-- measure
pub measure-skip_class-requires : goal.measure-skip_class-requires
measure-skip_class-requires t c = c.if-code-at.false

-- measure
pub measure-reach-requires : goal.measure-reach-requires
measure-reach-requires t c = c.if-code-at.false

-- measure
pub measure-returns-then-k-eq1 : goal.measure-returns-then-k-eq1
measure-returns-then-k-eq1 t c = span_class _ _ c.if-code-at.false c.if-k-eq1.true c.skip_class.ensures c.reach.ensures

-- measure
pub measure-in_a_row-requires : goal.measure-in_a_row-requires
measure-in_a_row-requires t c = (omega (arith, c.decreases, c.if-code-at.false), (c.if-code-at.false, c.if-k-eq2.true))

-- measure
pub measure-returns-then-k-eq2 : goal.measure-returns-then-k-eq2
measure-returns-then-k-eq2 t c = c.in_a_row.ensures

-- measure
pub measure-one_of-requires : goal.measure-one_of-requires
measure-one_of-requires t c = (omega (arith, c.decreases, c.if-code-at.false), (c.if-code-at.false, c.if-k-eq3.true))

-- measure
pub measure-returns-then-k-eq3 : goal.measure-returns-then-k-eq3
measure-returns-then-k-eq3 t c = c.one_of.ensures

-- measure
pub measure-copied-requires : goal.measure-copied-requires
measure-copied-requires t c = (omega (arith, c.decreases, c.if-code-at.false), (c.if-code-at.false, c.if-k-eq4.true))

-- measure
pub measure-returns-then-k-eq4 : goal.measure-returns-then-k-eq4
measure-returns-then-k-eq4 t c = c.copied.ensures

-- measure
pub measure-looped-requires : goal.measure-looped-requires
measure-looped-requires t c = (omega (arith, c.decreases, c.if-code-at.false), (c.if-code-at.false, c.if-k-eq5.true))

-- measure
pub measure-returns-then-k-eq5 : goal.measure-returns-then-k-eq5
measure-returns-then-k-eq5 t c = c.looped.ensures

-- measure
pub measure-returns : goal.measure-returns
measure-returns t c = rw c.no_width-2.ensures (span_other _ _ c.if-code-at.false c.if-k-eq0.false c.if-k-eq1.false c.if-k-eq2.false c.if-k-eq3.false c.if-k-eq4.false c.if-k-eq5.false)

-- one_of
pub one_of-measure-a-requires : goal.one_of-measure-a-requires
one_of-measure-a-requires t c = (omega (arith, c.decreases, c.requires.0), tt)

-- one_of
pub one_of-measure-b-requires : goal.one_of-measure-b-requires
one_of-measure-b-requires t c = (omega (arith, c.decreases, c.requires.0, c.measure-a.ensures.from), tt)

-- one_of
pub one_of-returns : goal.one_of-returns
one_of-returns t c = span_or _ _ c.requires.0 c.measure-a.ensures c.measure-b.ensures c.requires.1 c.min.ensures c.max.ensures
