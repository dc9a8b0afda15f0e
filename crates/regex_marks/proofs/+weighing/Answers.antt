-- The answers of the cycle of calls {weigh, weigh_counted, weigh_least, weigh_two}.
use Rattle.regex_marks.proofs.Runs.{weigh_nothing, weigh_empty, weigh_class, weigh_other, weigh_short, weigh_upto, weigh_upto_much, product, weigh_any, weigh_any_much}
use native.Mathlib.Omega.{arith}
use mathlib.Core.Path.{refl}
use Rattle.regex_marks.proofs.Words.{weigh_two}
use Rattle.regex_marks.proofs.+weighing.Goals as goal

-- weigh
pub weigh-returns-then-code-at : goal.weigh-returns-then-code-at
weigh-returns-then-code-at t c = weigh_nothing _ _ _ c.if-code-at.true

-- weigh
pub weigh-returns-then-k-eq0 : goal.weigh-returns-then-k-eq0
weigh-returns-then-k-eq0 t c = weigh_empty _ _ _ c.if-code-at.false c.if-k-eq0.true

-- weigh
pub weigh-skip_class-requires : goal.weigh-skip_class-requires
weigh-skip_class-requires t c = c.if-code-at.false

-- weigh
pub weigh-capped-requires : goal.weigh-capped-requires
weigh-capped-requires t c = c.requires

-- weigh
pub weigh-returns-then-k-eq1 : goal.weigh-returns-then-k-eq1
weigh-returns-then-k-eq1 t c = weigh_class _ _ _ c.if-code-at.false c.if-k-eq1.true c.skip_class.ensures c.capped.ensures

-- weigh
pub weigh-weigh_two-requires : goal.weigh-weigh_two-requires
weigh-weigh_two-requires t c = (omega (arith, c.decreases, c.if-code-at.false), (c.requires, (record { here = c.if-code-at.false; is = refl }, (omega (arith, c.if-k-eq0.false, c.if-k-eq1.false), c.if-k-le3.true))))

-- weigh
pub weigh-returns-then-k-le3 : goal.weigh-returns-then-k-le3
weigh-returns-then-k-le3 t c = c.weigh_two.ensures

-- weigh
pub weigh-weigh_counted-requires : goal.weigh-weigh_counted-requires
weigh-weigh_counted-requires t c = (omega (arith, c.decreases, c.if-code-at.false), (c.requires, record { here = c.if-code-at.false; is = c.if-k-eq4.true }))

-- weigh
pub weigh-returns-then-k-eq4 : goal.weigh-returns-then-k-eq4
weigh-returns-then-k-eq4 t c = c.weigh_counted.ensures

-- weigh
pub weigh-weigh_least-requires : goal.weigh-weigh_least-requires
weigh-weigh_least-requires t c = (omega (arith, c.decreases, c.if-code-at.false), (c.requires, record { here = c.if-code-at.false; is = c.if-k-eq5.true }))

-- weigh
pub weigh-returns-then-k-eq5 : goal.weigh-returns-then-k-eq5
weigh-returns-then-k-eq5 t c = c.weigh_least.ensures

-- weigh
pub weigh-returns : goal.weigh-returns
weigh-returns t c = weigh_other _ _ _ c.if-code-at.false c.if-k-eq0.false c.if-k-eq1.false (λ e. omega (arith, e, c.if-k-le3.false)) (λ e. omega (arith, e, c.if-k-le3.false)) c.if-k-eq4.false c.if-k-eq5.false

-- weigh_counted
pub weigh_counted-overflow_sub-code : goal.weigh_counted-overflow_sub-code
weigh_counted-overflow_sub-code t c = omega (arith, c.requires.1.here)

-- weigh_counted
pub weigh_counted-returns-then-code-at-lt3 : goal.weigh_counted-returns-then-code-at-lt3
weigh_counted-returns-then-code-at-lt3 t c = weigh_short _ _ _ c.requires.1.here (omega (arith, c.requires.1.is)) c.if-code-at-lt3.true

-- weigh_counted
pub weigh_counted-overflow_add-at : goal.weigh_counted-overflow_add-at
weigh_counted-overflow_add-at t c = omega (arith, c.requires.1.here, c.if-code-at-lt3.false, c.well_formed.0)

-- weigh_counted
pub weigh_counted-offset_bounds-code-at : goal.weigh_counted-offset_bounds-code-at
weigh_counted-offset_bounds-code-at t c = omega (arith, c.requires.1.here, c.if-code-at-lt3.false, c.well_formed.0)

-- weigh_counted
pub weigh_counted-bounds-code-at : goal.weigh_counted-bounds-code-at
weigh_counted-bounds-code-at t c = omega (arith, c.requires.1.here, c.if-code-at-lt3.false)

-- weigh_counted
pub weigh_counted-overflow_add-at-2 : goal.weigh_counted-overflow_add-at-2
weigh_counted-overflow_add-at-2 t c = omega (arith, c.requires.1.here, c.if-code-at-lt3.false, c.well_formed.0)

-- weigh_counted
pub weigh_counted-weigh-a-requires : goal.weigh_counted-weigh-a-requires
weigh_counted-weigh-a-requires t c = (omega (arith, c.decreases, c.requires.1.here, c.if-code-at-lt3.false), c.requires.0)

-- weigh_counted
pub weigh_counted-overflow_add-result : goal.weigh_counted-overflow_add-result
weigh_counted-overflow_add-result t c = omega (arith, c.requires.0)

-- weigh_counted
pub weigh_counted-returns-then-cap-a : goal.weigh_counted-returns-then-cap-a
weigh_counted-returns-then-cap-a t c = weigh_upto_much _ _ _ c.requires.1.here c.requires.1.is c.weigh-a.ensures c.if-cap-a.true

-- weigh_counted
pub weigh_counted-overflow_mul-a : goal.weigh_counted-overflow_mul-a
weigh_counted-overflow_mul-a t c = record { fits = omega (arith, product c.weigh-a.result.size c.wide-hi.result (omega (arith, c.if-cap-a.false, c.requires.0)) c.wide-hi.ensures.1) }

-- weigh_counted
pub weigh_counted-capped-requires : goal.weigh_counted-capped-requires
weigh_counted-capped-requires t c = c.requires.0

-- weigh_counted
pub weigh_counted-returns : goal.weigh_counted-returns
weigh_counted-returns t c = weigh_upto _ _ _ c.requires.1.here c.requires.1.is c.weigh-a.ensures _ _ c.wide-hi.ensures.0 c.if-cap-a.false c.capped.ensures

-- weigh_least
pub weigh_least-overflow_sub-code : goal.weigh_least-overflow_sub-code
weigh_least-overflow_sub-code t c = omega (arith, c.requires.1.here)

-- weigh_least
pub weigh_least-returns-then-code-at-lt3 : goal.weigh_least-returns-then-code-at-lt3
weigh_least-returns-then-code-at-lt3 t c = weigh_short _ _ _ c.requires.1.here (omega (arith, c.requires.1.is)) c.if-code-at-lt3.true

-- weigh_least
pub weigh_least-overflow_add-at : goal.weigh_least-overflow_add-at
weigh_least-overflow_add-at t c = omega (arith, c.requires.1.here, c.if-code-at-lt3.false, c.well_formed.0)

-- weigh_least
pub weigh_least-offset_bounds-code-at : goal.weigh_least-offset_bounds-code-at
weigh_least-offset_bounds-code-at t c = omega (arith, c.requires.1.here, c.if-code-at-lt3.false, c.well_formed.0)

-- weigh_least
pub weigh_least-bounds-code-at : goal.weigh_least-bounds-code-at
weigh_least-bounds-code-at t c = omega (arith, c.requires.1.here, c.if-code-at-lt3.false)

-- weigh_least
pub weigh_least-overflow_add-at-2 : goal.weigh_least-overflow_add-at-2
weigh_least-overflow_add-at-2 t c = omega (arith, c.requires.1.here, c.if-code-at-lt3.false, c.well_formed.0)

-- weigh_least
pub weigh_least-weigh-a-requires : goal.weigh_least-weigh-a-requires
weigh_least-weigh-a-requires t c = (omega (arith, c.decreases, c.requires.1.here, c.if-code-at-lt3.false), c.requires.0)

-- weigh_least
pub weigh_least-overflow_add-result : goal.weigh_least-overflow_add-result
weigh_least-overflow_add-result t c = omega (arith, c.requires.0)

-- weigh_least
pub weigh_least-returns-then-cap-a : goal.weigh_least-returns-then-cap-a
weigh_least-returns-then-cap-a t c = weigh_any_much _ _ _ c.requires.1.here c.requires.1.is c.weigh-a.ensures c.if-cap-a.true

-- weigh_least
pub weigh_least-overflow_mul-a : goal.weigh_least-overflow_mul-a
weigh_least-overflow_mul-a t c = record { fits = omega (arith, product c.weigh-a.result.size c.less-l.result (omega (arith, c.if-cap-a.false, c.requires.0)) (omega (arith, c.less-l.ensures, c.wide-lo.ensures.1))) }

-- weigh_least
pub weigh_least-overflow_add-a : goal.weigh_least-overflow_add-a
weigh_least-overflow_add-a t c = record { fits = omega (arith, product c.weigh-a.result.size c.less-l.result (omega (arith, c.if-cap-a.false, c.requires.0)) (omega (arith, c.less-l.ensures, c.wide-lo.ensures.1))) }

-- weigh_least
pub weigh_least-overflow_add-a-2 : goal.weigh_least-overflow_add-a-2
weigh_least-overflow_add-a-2 t c = record { fits = omega (arith, c.if-cap-a.false, c.requires.0, product c.weigh-a.result.size c.less-l.result (omega (arith, c.if-cap-a.false, c.requires.0)) (omega (arith, c.less-l.ensures, c.wide-lo.ensures.1))) }

-- weigh_least
pub weigh_least-capped-requires : goal.weigh_least-capped-requires
weigh_least-capped-requires t c = c.requires.0

-- weigh_least
pub weigh_least-returns : goal.weigh_least-returns
weigh_least-returns t c = weigh_any _ _ _ c.requires.1.here c.requires.1.is c.weigh-a.ensures _ _ _ c.wide-lo.ensures.0 c.less-l.ensures c.if-cap-a.false c.capped.ensures

-- weigh_two
pub weigh_two-overflow_add-at : goal.weigh_two-overflow_add-at
weigh_two-overflow_add-at t c = omega (arith, c.requires.1.0.here, c.well_formed.0)

-- weigh_two
pub weigh_two-weigh-a-requires : goal.weigh_two-weigh-a-requires
weigh_two-weigh-a-requires t c = (omega (arith, c.decreases, c.requires.1.0.here), c.requires.0)

-- weigh_two
pub weigh_two-weigh-b-requires : goal.weigh_two-weigh-b-requires
weigh_two-weigh-b-requires t c = (omega (arith, c.decreases, c.requires.1.0.here, c.weigh-a.ensures.from), c.requires.0)

-- weigh_two
pub weigh_two-overflow_add-a : goal.weigh_two-overflow_add-a
weigh_two-overflow_add-a t c = omega (arith, c.weigh-a.ensures.fits, c.weigh-b.ensures.fits, c.requires.0)

-- weigh_two
pub weigh_two-capped-requires : goal.weigh_two-capped-requires
weigh_two-capped-requires t c = c.requires.0

-- weigh_two
pub weigh_two-returns : goal.weigh_two-returns
weigh_two-returns t c = weigh_two c.requires.1.0 c.requires.1.1 c.weigh-a.ensures c.weigh-b.ensures c.capped.ensures
