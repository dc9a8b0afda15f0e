-- The answers of the cycle of calls {both, cuts, matches, pair, row, times}.
use Prim.Native.Nat.{◌≤◌}
use Rattle.regex_total.proofs.Steps.{pair_both, pair_none, once, tried_start, tried_more, tried_found, tried_last, match_nothing, match_empty, match_then, match_left, match_right, match_short, match_other, match_upto, match_any, times_none, times_enough, times_zero, times_skip, times_empty, times_single, times_halves}
use native.Mathlib.Omega.{arith}
use mathlib.Core.Path.{refl}
use Rattle.regex_total.proofs.Lengths.{times_apart}
use Rattle.regex_total.proofs.+matching.Goals as goal

-- both
pub both-matches-requires : goal.both-matches-requires
both-matches-requires t c = (omega (arith, c.decreases), c.requires.0)

-- both
pub both-matches-requires-then-matches : goal.both-matches-requires-then-matches
both-matches-requires-then-matches t c = (omega (arith, c.decreases, c.requires.1.1), c.requires.1.0)

-- both
pub both-returns-then-matches : goal.both-returns-then-matches
both-returns-then-matches t c = pair_both _ _ _ _ _ _ _ _ _ _ _ (once c.matches.ensures) c.if-matches.true (once c.matches-then-matches.ensures)

-- both
pub both-returns-else-matches : goal.both-returns-else-matches
both-returns-else-matches t c = rw c.if-matches.false (pair_none _ _ _ _ _ _ _ _ _ _ _ (once c.matches.ensures) c.if-matches.false)

-- cuts
pub cuts-loop-i-init : goal.cuts-loop-i-init
cuts-loop-i-init t c = tried_start _ _ _ _ _ _ _ _ _ _ c.requires.0

-- cuts
pub cuts-pair-requires : goal.cuts-pair-requires
cuts-pair-requires t c = (omega (arith, c.decreases), (record { order = c.loop-i.invariant.low; end = omega (arith, c.loop-i-test.true, c.requires.0.end) }, (record { order = omega (arith, c.loop-i-test.true); end = c.requires.0.end }, c.requires.1)))

-- cuts
pub cuts-returns-then-pair : goal.cuts-returns-then-pair
cuts-returns-then-pair t c = tried_found _ _ _ _ _ _ _ _ _ _ c.requires.0 _ c.loop-i.invariant c.pair.ensures c.if-pair.true

-- cuts
pub cuts-char_at-c-requires : goal.cuts-char_at-c-requires
cuts-char_at-c-requires t c = record { fact_1 = c.loop-i-test.true; fact_2 = c.requires.0.end }

-- cuts
pub cuts-loop-i-smaller : goal.cuts-loop-i-smaller
cuts-loop-i-smaller t c = omega (arith, c.char_at-c.ensures.after, c.char_at-c.ensures.within, c.loop-i-test.true)

-- cuts
pub cuts-loop-i-preserved : goal.cuts-loop-i-preserved
cuts-loop-i-preserved t c = tried_more _ _ _ _ _ _ _ _ _ _ c.requires.0 _ c.loop-i.invariant c.loop-i-test.true c.pair.ensures c.if-pair.false c.char_at-c.ensures

-- cuts
pub cuts-pair-requires-2 : goal.cuts-pair-requires-2
cuts-pair-requires-2 t c = (omega (arith, c.decreases), (record { order = c.requires.0.order; end = c.requires.0.end }, (record { order = omega arith; end = c.requires.0.end }, c.requires.1)))

-- cuts
pub cuts-returns : goal.cuts-returns
cuts-returns t c = tried_last _ _ _ _ _ _ _ _ _ _ c.requires.0 _ c.loop-i.invariant c.loop-i-test.false c.pair-2.ensures

-- matches
pub matches-returns-then-code-at : goal.matches-returns-then-code-at
matches-returns-then-code-at t c = match_nothing _ _ _ _ c.requires _ c.if-code-at.true

-- matches
pub matches-returns-then-k-eq0 : goal.matches-returns-then-k-eq0
matches-returns-then-k-eq0 t c = match_empty _ _ _ _ c.requires _ c.if-code-at.false c.if-k-eq0.true

-- matches
pub matches-one-requires : goal.matches-one-requires
matches-one-requires t c = record { fact_1 = c.requires; fact_2 = c.if-code-at.false; fact_3 = c.if-k-eq1.true }

-- matches
pub matches-returns-then-k-eq1 : goal.matches-returns-then-k-eq1
matches-returns-then-k-eq1 t c = c.one.ensures

-- matches
pub matches-row-requires : goal.matches-row-requires
matches-row-requires t c = (omega (arith, c.decreases, c.if-code-at.false), (c.requires, c.skip-b.ensures.from))

-- matches
pub matches-returns-then-k-eq2 : goal.matches-returns-then-k-eq2
matches-returns-then-k-eq2 t c = match_then _ _ _ _ c.requires _ c.if-code-at.false c.if-k-eq2.true c.skip-b.ensures c.row.ensures

-- matches
pub matches-matches-requires : goal.matches-matches-requires
matches-matches-requires t c = (omega (arith, c.decreases, c.if-code-at.false), c.requires)

-- matches
pub matches-returns-then-matches : goal.matches-returns-then-matches
matches-returns-then-matches t c = match_left _ _ _ _ c.requires _ c.if-code-at.false c.if-k-eq3.true c.matches.ensures c.if-matches.true

-- matches
pub matches-matches-requires-then-k-eq3 : goal.matches-matches-requires-then-k-eq3
matches-matches-requires-then-k-eq3 t c = (omega (arith, c.decreases, c.if-code-at.false, c.skip-b-then-k-eq3.ensures.from), c.requires)

-- matches
pub matches-returns-then-k-eq3 : goal.matches-returns-then-k-eq3
matches-returns-then-k-eq3 t c = match_right _ _ _ _ c.requires _ c.if-code-at.false c.if-k-eq3.true c.matches.ensures c.if-matches.false c.skip-b-then-k-eq3.ensures c.matches-then-k-eq3.ensures

-- matches
pub matches-returns-then-code-at-lt3 : goal.matches-returns-then-code-at-lt3
matches-returns-then-code-at-lt3 t c = match_short _ _ _ _ c.requires _ c.if-code-at.false (omega (arith, c.if-k-eq0.false, c.if-k-eq1.false, c.if-k-eq2.false, c.if-k-eq3.false)) c.if-code-at-lt3.true

-- matches
pub matches-times-requires : goal.matches-times-requires
matches-times-requires t c = (omega (arith, c.decreases, c.if-code-at.false, c.wide-hi.type_inv), c.requires)

-- matches
pub matches-returns-then-k-eq4 : goal.matches-returns-then-k-eq4
matches-returns-then-k-eq4 t c = match_upto _ _ _ _ c.requires _ c.if-code-at.false c.if-k-eq4.true c.wide-lo.ensures.0 c.wide-hi.ensures.0 c.times.ensures

-- matches
pub matches-times-requires-then-k-eq5 : goal.matches-times-requires-then-k-eq5
matches-times-requires-then-k-eq5 t c = (omega (arith, c.decreases, c.if-code-at.false, c.wide-lo-then-k-eq5.type_inv, c.ranges.to), c.requires)

-- matches
pub matches-returns-then-k-eq5 : goal.matches-returns-then-k-eq5
matches-returns-then-k-eq5 t c = match_any _ _ _ _ c.requires _ c.if-code-at.false c.if-k-eq5.true c.wide-lo-then-k-eq5.ensures.0 refl c.times-then-k-eq5.ensures

-- matches
pub matches-returns : goal.matches-returns
matches-returns t c = match_other _ _ _ _ c.requires _ c.if-code-at.false c.if-k-eq0.false c.if-k-eq1.false c.if-k-eq2.false c.if-k-eq3.false c.if-k-eq4.false c.if-k-eq5.false

-- pair
pub pair-times-requires : goal.pair-times-requires
pair-times-requires t c = (omega (arith, c.decreases, c.requires.1.1.some'), c.requires.0)

-- pair
pub pair-times-requires-then-times : goal.pair-times-requires-then-times
pair-times-requires-then-times t c = (omega (arith, c.decreases, c.requires.1.1.some), c.requires.1.0)

-- pair
pub pair-returns-then-times : goal.pair-returns-then-times
pair-returns-then-times t c = pair_both _ _ _ _ _ _ _ _ _ _ _ c.times.ensures c.if-times.true c.times-then-times.ensures

-- pair
pub pair-returns-else-times : goal.pair-returns-else-times
pair-returns-else-times t c = rw c.if-times.false (pair_none _ _ _ _ _ _ _ _ _ _ _ c.times.ensures c.if-times.false)

-- row
pub row-loop-i-init : goal.row-loop-i-init
row-loop-i-init t c = tried_start _ _ _ _ _ _ _ _ _ _ c.requires.0

-- row
pub row-both-requires : goal.row-both-requires
row-both-requires t c = (omega (arith, c.decreases), (record { order = c.loop-i.invariant.low; end = omega (arith, c.loop-i-test.true, c.requires.0.end) }, (record { order = omega (arith, c.loop-i-test.true); end = c.requires.0.end }, c.requires.1)))

-- row
pub row-returns-then-both : goal.row-returns-then-both
row-returns-then-both t c = tried_found _ _ _ _ _ _ _ _ _ _ c.requires.0 _ c.loop-i.invariant c.both.ensures c.if-both.true

-- row
pub row-char_at-c-requires : goal.row-char_at-c-requires
row-char_at-c-requires t c = record { fact_1 = c.loop-i-test.true; fact_2 = c.requires.0.end }

-- row
pub row-loop-i-smaller : goal.row-loop-i-smaller
row-loop-i-smaller t c = omega (arith, c.char_at-c.ensures.after, c.char_at-c.ensures.within, c.loop-i-test.true)

-- row
pub row-loop-i-preserved : goal.row-loop-i-preserved
row-loop-i-preserved t c = tried_more _ _ _ _ _ _ _ _ _ _ c.requires.0 _ c.loop-i.invariant c.loop-i-test.true c.both.ensures c.if-both.false c.char_at-c.ensures

-- row
pub row-both-requires-2 : goal.row-both-requires-2
row-both-requires-2 t c = (omega (arith, c.decreases), (record { order = c.requires.0.order; end = c.requires.0.end }, (record { order = omega arith; end = c.requires.0.end }, c.requires.1)))

-- row
pub row-returns : goal.row-returns
row-returns t c = tried_last _ _ _ _ _ _ _ _ _ _ c.requires.0 _ c.loop-i.invariant c.loop-i-test.false c.both-2.ensures

-- times
pub times-returns-then-hi-lo : goal.times-returns-then-hi-lo
times-returns-then-hi-lo t c = times_none _ _ _ _ c.requires _ _ _ c.if-hi-lo.true

-- times
pub times-returns-then-hi-eq0 : goal.times-returns-then-hi-eq0
times-returns-then-hi-eq0 t c = times_zero _ _ _ _ c.requires _ _ _ c.if-hi-lo.false c.if-hi-eq0.true

-- times
pub times-returns-then-lo-eq0 : goal.times-returns-then-lo-eq0
times-returns-then-lo-eq0 t c = times_skip _ _ _ _ c.requires _ _ _ c.if-lo-eq0.true c.if-from-to.true

-- times
pub times-matches-requires : goal.times-matches-requires
times-matches-requires t c = (omega (arith, c.decreases), c.requires)

-- times
pub times-returns-then-from-to : goal.times-returns-then-from-to
times-returns-then-from-to t c = times_empty _ _ _ _ c.requires _ _ _ c.if-hi-lo.false c.if-lo-eq0.false c.if-from-to.true c.matches.ensures

-- times
pub times-enough-top-requires : goal.times-enough-top-requires
times-enough-top-requires t c = c.if-hi-lo.false

-- times
pub times-returns-then-apart : goal.times-returns-then-apart
times-returns-then-apart t c = times_enough _ _ _ _ c.requires _ _ _ _ c.enough-top.ensures (times_apart _ _ _ _ c.requires _ _ _ c.measure-w.ensures (c.apart.ensures c.if-apart.true))

-- times
pub times-matches-requires-then-top-eq1 : goal.times-matches-requires-then-top-eq1
times-matches-requires-then-top-eq1 t c = (omega (arith, c.decreases), c.requires)

-- times
pub times-returns-then-top-eq1 : goal.times-returns-then-top-eq1
times-returns-then-top-eq1 t c = times_enough _ _ _ _ c.requires _ _ _ _ c.enough-top.ensures (times_single _ _ _ _ c.requires _ _ _ c.enough-top.ensures.low c.if-top-eq1.true c.if-from-to.false c.matches-then-top-eq1.ensures)

-- times
pub times-cuts-requires : goal.times-cuts-requires
times-cuts-requires t c = let k : 1 ≤ c.enough-top.result = c.enough-top.ensures.some (omega (arith, c.if-hi-eq0.false)) (omega (arith, c.requires.order, c.if-from-to.false)) in (omega (arith, c.decreases, k, c.enough-top.ensures.within), (c.requires, record { some = omega (arith, k, c.if-top-eq1.false); some' = omega (arith, k, c.if-top-eq1.false) }))

-- times
pub times-returns : goal.times-returns
times-returns t c = times_enough _ _ _ _ c.requires _ _ _ _ c.enough-top.ensures (times_halves _ _ _ _ c.requires _ _ _ c.enough-top.ensures.low c.cuts.ensures)
