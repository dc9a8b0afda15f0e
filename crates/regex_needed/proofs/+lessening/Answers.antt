-- The answers of the cycle of calls {least, lessen, pair, plain}.
use Rattle.regex_needed.proofs.Writing.{plain_least, written_on, goes_on, asks_on, less_nowhere, less_ended, less_closed, less_joined, less_head, plain_pair, plain_counted}
use mathlib.Core.Path.{refl, ◌∙◌}
use native.Mathlib.Omega.{arith}
use Rattle.regex_needed.proofs.+lessening.Goals as goal

-- least
pub least-overflow_add-lo : goal.least-overflow_add-lo
least-overflow_add-lo t c = omega (arith, c.requires.1.0, c.well_formed.0)

-- least
pub least-offset_bounds-code-at : goal.least-offset_bounds-code-at
least-offset_bounds-code-at t c = omega (arith, c.requires.1.0, c.well_formed.0)

-- least
pub least-bounds-code-at : goal.least-bounds-code-at
least-bounds-code-at t c = omega (arith, c.requires.1.0)

-- least
pub least-overflow_add-at : goal.least-overflow_add-at
least-overflow_add-at t c = omega (arith, c.requires.1.0, c.well_formed.0)

-- least
pub least-put-e-requires : goal.least-put-e-requires
least-put-e-requires t c = c.requires.1.1.place

-- least
pub least-put-f-requires : goal.least-put-f-requires
least-put-f-requires t c = (asks_on c.requires.1.1 c.put-e.ensures.goes).place

-- least
pub least-overflow_add-at-2 : goal.least-overflow_add-at-2
least-overflow_add-at-2 t c = omega (arith, c.requires.1.0, c.well_formed.0)

-- least
pub least-lessen-requires : goal.least-lessen-requires
least-lessen-requires t c = (omega (arith, c.decreases, c.requires.0.here), asks_on c.requires.1.1 (goes_on c.put-e.ensures.goes c.put-f.ensures.goes))

-- least
pub least-shape_of-out : goal.least-shape_of-out
least-shape_of-out t c = c.lessen.ensures.goes.long ∙ c.put-f.ensures.goes.long ∙ c.put-e.ensures.goes.long

-- least
pub least-returns : goal.least-returns
least-returns t c = plain_least c.requires.0 refl c.needed-l.ensures (written_on c.put-e.ensures c.put-f.ensures) c.lessen.ensures

-- lessen
pub lessen-returns-then-code-at : goal.lessen-returns-then-code-at
lessen-returns-then-code-at t c = less_nowhere c.if-code-at.true c.requires.place

-- lessen
pub lessen-offset_bounds-code-at : goal.lessen-offset_bounds-code-at
lessen-offset_bounds-code-at t c = omega (arith, c.if-code-at.false, c.well_formed.0)

-- lessen
pub lessen-bounds-code-at : goal.lessen-bounds-code-at
lessen-bounds-code-at t c = c.if-code-at.false

-- lessen
pub lessen-overflow_add-at : goal.lessen-overflow_add-at
lessen-overflow_add-at t c = omega (arith, c.if-code-at.false, c.well_formed.0)

-- lessen
pub lessen-overflow_add-at-then-closes : goal.lessen-overflow_add-at-then-closes
lessen-overflow_add-at-then-closes t c = omega (arith, c.if-code-at.false, c.well_formed.0)

-- lessen
pub lessen-lessen-p-requires : goal.lessen-lessen-p-requires
lessen-lessen-p-requires t c = (omega (arith, c.decreases, c.if-code-at.false), c.requires)

-- lessen
pub lessen-shape_of-out-then-closes : goal.lessen-shape_of-out-then-closes
lessen-shape_of-out-then-closes t c = c.lessen-p.ensures.goes.long

-- lessen
pub lessen-returns-then-closes : goal.lessen-returns-then-closes
lessen-returns-then-closes t c = less_ended c.behind.ensures.1 (less_closed (record { here = c.if-code-at.false; is = c.if-k-eq2.true }) (c.closes.ensures c.if-closes.true) c.lessen-p.ensures c.behind.ensures.0)

-- lessen
pub lessen-joins-requires : goal.lessen-joins-requires
lessen-joins-requires t c = record { fact_1 = record { here = c.if-code-at.false; is = c.if-k-eq4.true }; fact_2 = c.requires.short }

-- lessen
pub lessen-overflow_add-at-in-Some : goal.lessen-overflow_add-at-in-Some
lessen-overflow_add-at-in-Some t c = omega (arith, c.if-code-at.false, c.well_formed.0)

-- lessen
pub lessen-lessen-requires : goal.lessen-lessen-requires
lessen-lessen-requires t c = (omega (arith, c.decreases, c.if-code-at.false), c.requires)

-- lessen
pub lessen-shape_of-out-in-Some : goal.lessen-shape_of-out-in-Some
lessen-shape_of-out-in-Some t c = c.lessen.ensures.goes.long

-- lessen
pub lessen-returns-in-Some : goal.lessen-returns-in-Some
lessen-returns-in-Some t c = less_joined c.in-Some.ensures c.lessen.ensures

-- lessen
pub lessen-head-e-requires : goal.lessen-head-e-requires
lessen-head-e-requires t c = c.requires

-- lessen
pub lessen-plain-requires : goal.lessen-plain-requires
lessen-plain-requires t c = (omega (arith, c.decreases), (record { here = c.if-code-at.false; is = refl }, asks_on c.requires c.head-e.ensures.goes))

-- lessen
pub lessen-shape_of-out : goal.lessen-shape_of-out
lessen-shape_of-out t c = c.plain.ensures.goes.long ∙ c.head-e.ensures.goes.long

-- lessen
pub lessen-returns : goal.lessen-returns
lessen-returns t c = less_head c.head-e.ensures c.plain.ensures

-- pair
pub pair-put-e-requires : goal.pair-put-e-requires
pair-put-e-requires t c = c.requires.1.0.place

-- pair
pub pair-overflow_add-at : goal.pair-overflow_add-at
pair-overflow_add-at t c = omega (arith, c.requires.0.here, c.well_formed.0)

-- pair
pub pair-lessen-p-requires : goal.pair-lessen-p-requires
pair-lessen-p-requires t c = (omega (arith, c.decreases, c.requires.0.here), asks_on c.requires.1.0 c.put-e.ensures.goes)

-- pair
pub pair-lessen-requires : goal.pair-lessen-requires
pair-lessen-requires t c = (omega (arith, c.decreases, c.requires.0.here, c.lessen-p.ensures.from), asks_on c.requires.1.0 (goes_on c.put-e.ensures.goes c.lessen-p.ensures.goes))

-- pair
pub pair-shape_of-out : goal.pair-shape_of-out
pair-shape_of-out t c = c.lessen.ensures.goes.long ∙ c.lessen-p.ensures.goes.long ∙ c.put-e.ensures.goes.long

-- pair
pub pair-returns : goal.pair-returns
pair-returns t c = plain_pair c.requires.0 c.put-e.ensures c.lessen-p.ensures c.lessen.ensures c.requires.1.1

-- plain
pub plain-same-requires : goal.plain-same-requires
plain-same-requires t c = record { fact_1 = c.requires.0.here; fact_2 = c.requires.1 }

-- plain
pub plain-shape_of-out-then-k-lt2 : goal.plain-shape_of-out-then-k-lt2
plain-shape_of-out-then-k-lt2 t c = c.same.ensures.goes.long

-- plain
pub plain-returns-then-k-lt2 : goal.plain-returns-then-k-lt2
plain-returns-then-k-lt2 t c = c.same.ensures

-- plain
pub plain-pair-requires : goal.plain-pair-requires
plain-pair-requires t c = (omega (arith, c.decreases), (c.requires.0, (c.requires.1, (c.if-k-lt2.false, c.if-k-le3.true))))

-- plain
pub plain-shape_of-out-then-k-le3 : goal.plain-shape_of-out-then-k-le3
plain-shape_of-out-then-k-le3 t c = c.pair.ensures.goes.long

-- plain
pub plain-returns-then-k-le3 : goal.plain-returns-then-k-le3
plain-returns-then-k-le3 t c = c.pair.ensures

-- plain
pub plain-overflow_sub-code : goal.plain-overflow_sub-code
plain-overflow_sub-code t c = omega (arith, c.requires.0.here)

-- plain
pub plain-same-requires-then-code-at-lt3 : goal.plain-same-requires-then-code-at-lt3
plain-same-requires-then-code-at-lt3 t c = record { fact_1 = c.requires.0.here; fact_2 = c.requires.1 }

-- plain
pub plain-shape_of-out-then-code-at-lt3 : goal.plain-shape_of-out-then-code-at-lt3
plain-shape_of-out-then-code-at-lt3 t c = c.same-then-code-at-lt3.ensures.goes.long

-- plain
pub plain-returns-then-code-at-lt3 : goal.plain-returns-then-code-at-lt3
plain-returns-then-code-at-lt3 t c = c.same-then-code-at-lt3.ensures

-- plain
pub plain-nothing-requires : goal.plain-nothing-requires
plain-nothing-requires t c = record { fact_1 = c.misses.ensures c.if-misses.true; fact_2 = c.requires.1 }

-- plain
pub plain-shape_of-out-then-misses : goal.plain-shape_of-out-then-misses
plain-shape_of-out-then-misses t c = c.nothing.ensures.goes.long

-- plain
pub plain-returns-then-misses : goal.plain-returns-then-misses
plain-returns-then-misses t c = c.nothing.ensures

-- plain
pub plain-overflow_add-at : goal.plain-overflow_add-at
plain-overflow_add-at t c = omega (arith, c.requires.0.here, c.well_formed.0)

-- plain
pub plain-overflow_add-at-then-k-eq4 : goal.plain-overflow_add-at-then-k-eq4
plain-overflow_add-at-then-k-eq4 t c = omega (arith, c.requires.0.here, c.well_formed.0)

-- plain
pub plain-offset_bounds-code-at : goal.plain-offset_bounds-code-at
plain-offset_bounds-code-at t c = omega (arith, c.requires.0.here, c.if-code-at-lt3.false, c.well_formed.0)

-- plain
pub plain-bounds-code-at : goal.plain-bounds-code-at
plain-bounds-code-at t c = omega (arith, c.requires.0.here, c.if-code-at-lt3.false)

-- plain
pub plain-overflow_add-at-then-k-eq4-2 : goal.plain-overflow_add-at-then-k-eq4-2
plain-overflow_add-at-then-k-eq4-2 t c = omega (arith, c.requires.0.here, c.well_formed.0)

-- plain
pub plain-offset_bounds-code-at-then-k-eq4 : goal.plain-offset_bounds-code-at-then-k-eq4
plain-offset_bounds-code-at-then-k-eq4 t c = omega (arith, c.requires.0.here, c.if-code-at-lt3.false, c.well_formed.0)

-- plain
pub plain-bounds-code-at-then-k-eq4 : goal.plain-bounds-code-at-then-k-eq4
plain-bounds-code-at-then-k-eq4 t c = omega (arith, c.requires.0.here, c.if-code-at-lt3.false)

-- plain
pub plain-lessen-requires : goal.plain-lessen-requires
plain-lessen-requires t c = (omega (arith, c.decreases, c.requires.0.here), c.requires.1)

-- plain
pub plain-shape_of-out-then-k-eq4 : goal.plain-shape_of-out-then-k-eq4
plain-shape_of-out-then-k-eq4 t c = c.lessen.ensures.goes.long

-- plain
pub plain-returns-then-k-eq4 : goal.plain-returns-then-k-eq4
plain-returns-then-k-eq4 t c = plain_counted (record { here = c.requires.0.here; is = c.requires.0.is ∙ c.if-k-eq4.true }) refl refl c.lessen.ensures

-- plain
pub plain-least-requires : goal.plain-least-requires
plain-least-requires t c = (omega (arith, c.decreases), (record { here = c.requires.0.here; is = c.requires.0.is ∙ c.if-k-eq5.true }, (omega (arith, c.requires.0.here, c.if-code-at-lt3.false), c.requires.1)))

-- plain
pub plain-shape_of-out-then-k-eq5 : goal.plain-shape_of-out-then-k-eq5
plain-shape_of-out-then-k-eq5 t c = c.least.ensures.goes.long

-- plain
pub plain-returns-then-k-eq5 : goal.plain-returns-then-k-eq5
plain-returns-then-k-eq5 t c = c.least.ensures

-- plain
pub plain-same-requires-2 : goal.plain-same-requires-2
plain-same-requires-2 t c = record { fact_1 = c.requires.0.here; fact_2 = c.requires.1 }

-- plain
pub plain-shape_of-out : goal.plain-shape_of-out
plain-shape_of-out t c = c.same-2.ensures.goes.long

-- plain
pub plain-returns : goal.plain-returns
plain-returns t c = c.same-2.ensures
