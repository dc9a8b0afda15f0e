-- The answers of the cycle of calls {again, counted, either, grow, least, part, reach, wider}.
use Rattle.regex_places.proofs.Leads.{rows_start, rows_on, rows_none, rows_end, fits_on, by_counts, by_none, by_either, fits_all, most_start, most_on, most_still, most_end, by_least_lem, nowhere, of_none, too_short, no_word, row_start, row_on, row_end, row_off, by_wider}
use native.Mathlib.Omega.{arith}
use mathlib.Core.Path.{◌≡◌, refl, ◌∙◌, sym, ap}
use Prim.Native.Nat.{◌+◌, ◌-◌}
use borrow.Author.Tests.{not-true}
use mathlib.Core.Bool.{not}
use Rattle.regex_places.proofs.+growing.Goals as goal

-- again
pub again-loop-init : goal.again-loop-init
again-loop-init t c = let z : c.args.n - 0 ≡ c.args.n = omega arith in rw z (rows_start c.args.n)

-- again
pub again-overflow_add-text : goal.again-overflow_add-text
again-overflow_add-text t c = omega (arith, c.requires.short)

-- again
pub again-none-requires : goal.again-none-requires
again-none-requires t c = omega (arith, c.requires.room, c.loop.invariant.long)

-- again
pub again-shape_of-set-then-none : goal.again-shape_of-set-then-none
again-shape_of-set-then-none t c = c.loop.invariant.long

-- again
pub again-returns-then-none : goal.again-returns-then-none
again-returns-then-none t c = rows_none c.args.n (c.args.n - c.loop.counter) c.loop.invariant (c.none.ensures c.if-none.true)

-- again
pub again-reach-requires : goal.again-reach-requires
again-reach-requires t c = (omega (arith, c.decreases), fits_on c.requires c.loop.invariant.long)

-- again
pub again-loop-preserved : goal.again-loop-preserved
again-loop-preserved t c = let z : c.args.n - (c.loop.counter + 1) ≡ c.args.n - c.loop.counter - 1 = omega arith in rw z (rows_on c.args.n (c.args.n - c.loop.counter) (omega arith) c.loop.invariant c.reach.ensures)

-- again
pub again-shape_of-set : goal.again-shape_of-set
again-shape_of-set t c = c.loop.invariant.long

-- again
pub again-returns : goal.again-returns
again-returns t c = rows_end c.args.n (c.args.n - c.loop.counter) (omega arith) c.loop.invariant

-- counted
pub counted-overflow_add-at : goal.counted-overflow_add-at
counted-overflow_add-at t c = omega (arith, c.requires.1.0, c.well_formed.0)

-- counted
pub counted-offset_bounds-code-at : goal.counted-offset_bounds-code-at
counted-offset_bounds-code-at t c = omega (arith, c.requires.1.0, c.well_formed.0)

-- counted
pub counted-bounds-code-at : goal.counted-bounds-code-at
counted-bounds-code-at t c = omega (arith, c.requires.1.0)

-- counted
pub counted-overflow_add-at-2 : goal.counted-overflow_add-at-2
counted-overflow_add-at-2 t c = omega (arith, c.requires.1.0, c.well_formed.0)

-- counted
pub counted-offset_bounds-code-at-2 : goal.counted-offset_bounds-code-at-2
counted-offset_bounds-code-at-2 t c = omega (arith, c.requires.1.0, c.well_formed.0)

-- counted
pub counted-bounds-code-at-2 : goal.counted-bounds-code-at-2
counted-bounds-code-at-2 t c = omega (arith, c.requires.1.0)

-- counted
pub counted-overflow_add-text : goal.counted-overflow_add-text
counted-overflow_add-text t c = omega (arith, c.requires.1.1.short)

-- counted
pub counted-clear-requires : goal.counted-clear-requires
counted-clear-requires t c = omega (arith, c.requires.1.1.room)

-- counted
pub counted-shape_of-set-then-hi-lo : goal.counted-shape_of-set-then-hi-lo
counted-shape_of-set-then-hi-lo t c = c.clear.ensures.0

-- counted
pub counted-returns-then-hi-lo : goal.counted-returns-then-hi-lo
counted-returns-then-hi-lo t c = by_none c.requires.0 c.wide-lo.ensures.0 c.wide-hi.ensures.0 c.if-hi-lo.true c.clear.ensures.0 c.clear.ensures.1

-- counted
pub counted-overflow_add-at-3 : goal.counted-overflow_add-at-3
counted-overflow_add-at-3 t c = omega (arith, c.requires.1.0, c.well_formed.0)

-- counted
pub counted-again-requires : goal.counted-again-requires
counted-again-requires t c = (omega (arith, c.decreases, c.requires.1.0), c.requires.1.1)

-- counted
pub counted-overflow_add-at-4 : goal.counted-overflow_add-at-4
counted-overflow_add-at-4 t c = omega (arith, c.requires.1.0, c.well_formed.0)

-- counted
pub counted-grow-requires : goal.counted-grow-requires
counted-grow-requires t c = (omega (arith, c.decreases, c.requires.1.0), fits_on c.requires.1.1 c.again.ensures.long)

-- counted
pub counted-shape_of-set : goal.counted-shape_of-set
counted-shape_of-set t c = c.grow.ensures.long ∙ c.again.ensures.long

-- counted
pub counted-returns : goal.counted-returns
counted-returns t c = by_counts c.requires.0 c.wide-lo.ensures.0 c.wide-hi.ensures.0 c.if-hi-lo.false refl c.again.ensures c.grow.ensures

-- either
pub either-overflow_add-n : goal.either-overflow_add-n
either-overflow_add-n t c = omega (arith, c.requires.1.short)

-- either
pub either-copy-requires : goal.either-copy-requires
either-copy-requires t c = (omega (arith, c.requires.1.room), omega (arith, c.requires.1.short))

-- either
pub either-overflow_add-at : goal.either-overflow_add-at
either-overflow_add-at t c = omega (arith, c.requires.0.here, c.well_formed.0)

-- either
pub either-reach-requires : goal.either-reach-requires
either-reach-requires t c = (omega (arith, c.decreases, c.requires.0.here), c.requires.1)

-- either
pub either-overflow_add-at-2 : goal.either-overflow_add-at-2
either-overflow_add-at-2 t c = omega (arith, c.requires.0.here, c.well_formed.0)

-- either
pub either-slice_bounds-reach-end : goal.either-slice_bounds-reach-end
either-slice_bounds-reach-end t c = sym c.copy.ensures.long

-- either
pub either-reach-requires-2 : goal.either-reach-requires-2
either-reach-requires-2 t c = (omega (arith, c.decreases, c.requires.0.here, c.skip-b.ensures.from), fits_all c.requires.1 c.copy.ensures.long)

-- either
pub either-slice_bounds-join-end : goal.either-slice_bounds-join-end
either-slice_bounds-join-end t c = sym (c.reach-2.ensures.long ∙ c.copy.ensures.long)

-- either
pub either-join-requires : goal.either-join-requires
either-join-requires t c = (omega (arith, c.requires.1.room, c.reach.ensures.long), omega (arith, c.requires.1.short, c.reach-2.ensures.long, c.copy.ensures.long))

-- either
pub either-shape_of-set : goal.either-shape_of-set
either-shape_of-set t c = c.join.ensures.long ∙ c.reach.ensures.long

-- either
pub either-returns : goal.either-returns
either-returns t c = by_either c.requires.0 refl c.copy.ensures c.reach.ensures c.skip-b.ensures c.reach-2.ensures c.join.ensures

-- grow
pub grow-loop-init : goal.grow-loop-init
grow-loop-init t c = let z : c.args.n - 0 ≡ c.args.n = omega arith in rw z (most_start c.args.n)

-- grow
pub grow-wider-requires : goal.grow-wider-requires
grow-wider-requires t c = (omega (arith, c.decreases), fits_on c.requires c.loop.invariant.long)

-- grow
pub grow-shape_of-set-then-not-wider : goal.grow-shape_of-set-then-not-wider
grow-shape_of-set-then-not-wider t c = c.wider.ensures.long ∙ c.loop.invariant.long

-- grow
pub grow-returns-then-not-wider : goal.grow-returns-then-not-wider
grow-returns-then-not-wider t c = most_still c.args.n c.loop.invariant c.wider.ensures (not-true _ (ap not c.if-not-wider.true))

-- grow
pub grow-loop-preserved : goal.grow-loop-preserved
grow-loop-preserved t c = let z : c.args.n - (c.loop.counter + 1) ≡ c.args.n - c.loop.counter - 1 = omega arith in rw z (most_on c.args.n (omega arith) c.loop.invariant c.wider.ensures)

-- grow
pub grow-shape_of-set : goal.grow-shape_of-set
grow-shape_of-set t c = c.loop.invariant.long

-- grow
pub grow-returns : goal.grow-returns
grow-returns t c = most_end c.args.n (omega arith) c.loop.invariant

-- least
pub least-overflow_add-at : goal.least-overflow_add-at
least-overflow_add-at t c = omega (arith, c.requires.1.0, c.well_formed.0)

-- least
pub least-offset_bounds-code-at : goal.least-offset_bounds-code-at
least-offset_bounds-code-at t c = omega (arith, c.requires.1.0, c.well_formed.0)

-- least
pub least-bounds-code-at : goal.least-bounds-code-at
least-bounds-code-at t c = omega (arith, c.requires.1.0)

-- least
pub least-overflow_add-at-2 : goal.least-overflow_add-at-2
least-overflow_add-at-2 t c = omega (arith, c.requires.1.0, c.well_formed.0)

-- least
pub least-again-requires : goal.least-again-requires
least-again-requires t c = (omega (arith, c.decreases, c.requires.1.0), c.requires.1.1)

-- least
pub least-overflow_add-at-3 : goal.least-overflow_add-at-3
least-overflow_add-at-3 t c = omega (arith, c.requires.1.0, c.well_formed.0)

-- least
pub least-grow-requires : goal.least-grow-requires
least-grow-requires t c = (omega (arith, c.decreases, c.requires.1.0), fits_on c.requires.1.1 c.again.ensures.long)

-- least
pub least-shape_of-set : goal.least-shape_of-set
least-shape_of-set t c = c.grow.ensures.long ∙ c.again.ensures.long

-- least
pub least-returns : goal.least-returns
least-returns t c = by_least_lem c.requires.0 c.wide-lo.ensures.0 refl c.again.ensures c.grow.ensures

-- part
pub part-returns-then-code-at : goal.part-returns-then-code-at
part-returns-then-code-at t c = nowhere c.if-code-at.true

-- part
pub part-offset_bounds-code-at : goal.part-offset_bounds-code-at
part-offset_bounds-code-at t c = omega (arith, c.if-code-at.false, c.well_formed.0)

-- part
pub part-bounds-code-at : goal.part-bounds-code-at
part-bounds-code-at t c = c.if-code-at.false

-- part
pub part-returns-then-k-eq0 : goal.part-returns-then-k-eq0
part-returns-then-k-eq0 t c = of_none c.if-code-at.false c.if-k-eq0.true

-- part
pub part-step-requires : goal.part-step-requires
part-step-requires t c = record { fact_1 = c.if-code-at.false; fact_2 = c.if-k-eq1.true; fact_3 = c.requires.1 }

-- part
pub part-shape_of-set-then-k-eq1 : goal.part-shape_of-set-then-k-eq1
part-shape_of-set-then-k-eq1 t c = c.step.ensures.long

-- part
pub part-returns-then-k-eq1 : goal.part-returns-then-k-eq1
part-returns-then-k-eq1 t c = c.step.ensures

-- part
pub part-either-requires : goal.part-either-requires
part-either-requires t c = (omega (arith, c.decreases), (record { here = c.if-code-at.false; is = c.if-k-eq3.true }, c.requires.1))

-- part
pub part-shape_of-set-then-k-eq3 : goal.part-shape_of-set-then-k-eq3
part-shape_of-set-then-k-eq3 t c = c.either.ensures.long

-- part
pub part-returns-then-k-eq3 : goal.part-returns-then-k-eq3
part-returns-then-k-eq3 t c = c.either.ensures

-- part
pub part-overflow_sub-code : goal.part-overflow_sub-code
part-overflow_sub-code t c = omega (arith, c.if-code-at.false)

-- part
pub part-returns-then-code-at-lt3 : goal.part-returns-then-code-at-lt3
part-returns-then-code-at-lt3 t c = too_short c.if-code-at.false (omega (arith, c.if-k-eq0.false, c.if-k-eq1.false, c.requires.0.no' refl c.if-code-at.false, c.if-k-eq3.false)) c.if-code-at-lt3.true

-- part
pub part-counted-requires : goal.part-counted-requires
part-counted-requires t c = (omega (arith, c.decreases), (record { here = c.if-code-at.false; is = c.if-k-eq4.true }, (omega (arith, c.if-code-at.false, c.if-code-at-lt3.false), c.requires.1)))

-- part
pub part-shape_of-set-then-k-eq4 : goal.part-shape_of-set-then-k-eq4
part-shape_of-set-then-k-eq4 t c = c.counted.ensures.long

-- part
pub part-returns-then-k-eq4 : goal.part-returns-then-k-eq4
part-returns-then-k-eq4 t c = c.counted.ensures

-- part
pub part-least-requires : goal.part-least-requires
part-least-requires t c = (omega (arith, c.decreases), (record { here = c.if-code-at.false; is = c.if-k-eq5.true }, (omega (arith, c.if-code-at.false, c.if-code-at-lt3.false), c.requires.1)))

-- part
pub part-shape_of-set : goal.part-shape_of-set
part-shape_of-set t c = c.least.ensures.long

-- part
pub part-returns-then-k-eq5 : goal.part-returns-then-k-eq5
part-returns-then-k-eq5 t c = c.least.ensures

-- part
pub part-returns-else-k-eq5 : goal.part-returns-else-k-eq5
part-returns-else-k-eq5 t c = no_word c.if-code-at.false c.if-k-eq0.false c.if-k-eq1.false (c.requires.0.no' refl c.if-code-at.false) c.if-k-eq3.false c.if-k-eq4.false c.if-k-eq5.false

-- reach
pub reach-loop-set-init : goal.reach-loop-set-init
reach-loop-set-init t c = row_start

-- reach
pub reach-overflow_add-p : goal.reach-overflow_add-p
reach-overflow_add-p t c = omega (arith, (c.is_row.ensures.yes c.loop-set-test.true).here, c.well_formed.0)

-- reach
pub reach-reach-requires : goal.reach-reach-requires
reach-reach-requires t c = (omega (arith, c.decreases, c.loop-set.invariant.from, (c.is_row.ensures.yes c.loop-set-test.true).here), fits_on c.requires c.loop-set.invariant.long)

-- reach
pub reach-overflow_add-p-in-loop-set : goal.reach-overflow_add-p-in-loop-set
reach-overflow_add-p-in-loop-set t c = omega (arith, (c.is_row.ensures.yes c.loop-set-test.true).here, c.well_formed.0)

-- reach
pub reach-loop-set-smaller : goal.reach-loop-set-smaller
reach-loop-set-smaller t c = omega (arith, c.skip-p.ensures.from, (c.is_row.ensures.yes c.loop-set-test.true).here)

-- reach
pub reach-loop-set-preserved : goal.reach-loop-set-preserved
reach-loop-set-preserved t c = row_on c.loop-set.invariant (c.is_row.ensures.yes c.loop-set-test.true) c.reach.ensures c.skip-p.ensures

-- reach
pub reach-part-requires : goal.reach-part-requires
reach-part-requires t c = (omega (arith, c.decreases, c.loop-set.invariant.from), (row_off c.is_row.ensures c.loop-set-test.false, fits_on c.requires c.loop-set.invariant.long))

-- reach
pub reach-shape_of-set : goal.reach-shape_of-set
reach-shape_of-set t c = c.part.ensures.long ∙ c.loop-set.invariant.long

-- reach
pub reach-returns : goal.reach-returns
reach-returns t c = row_end c.loop-set.invariant c.part.ensures

-- wider
pub wider-overflow_add-n : goal.wider-overflow_add-n
wider-overflow_add-n t c = omega (arith, c.requires.short)

-- wider
pub wider-copy-requires : goal.wider-copy-requires
wider-copy-requires t c = (omega (arith, c.requires.room), omega (arith, c.requires.short))

-- wider
pub wider-slice_bounds-reach-end : goal.wider-slice_bounds-reach-end
wider-slice_bounds-reach-end t c = sym c.copy.ensures.long

-- wider
pub wider-reach-requires : goal.wider-reach-requires
wider-reach-requires t c = (omega (arith, c.decreases), fits_all c.requires c.copy.ensures.long)

-- wider
pub wider-slice_bounds-join-end : goal.wider-slice_bounds-join-end
wider-slice_bounds-join-end t c = sym (c.reach.ensures.long ∙ c.copy.ensures.long)

-- wider
pub wider-join-requires : goal.wider-join-requires
wider-join-requires t c = (omega (arith, c.requires.room), omega (arith, c.requires.short, c.reach.ensures.long, c.copy.ensures.long))

-- wider
pub wider-shape_of-set : goal.wider-shape_of-set
wider-shape_of-set t c = c.join.ensures.long

-- wider
pub wider-returns : goal.wider-returns
wider-returns t c = by_wider refl c.copy.ensures c.reach.ensures c.join.ensures
