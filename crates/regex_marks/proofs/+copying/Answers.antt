-- The answers of the cycle of calls {copies, counted, endless, least, shift, two}.
use Rattle.regex_marks.proofs.Words.{shifted_by, copied_by, again_fits, clip_skip, endless_by, shifted_fits, next_fits, shift_two}
use Rattle.regex_marks.proofs.Laws.{copied_one, copied_more, copied_bare, stop_short, shift_none, shift_upto, endless_room, endless_loop, endless_more, endless_hollow, shift_any, stop_nothing, shift_empty, stop_other}
use mathlib.Core.Path.{◌∙◌, refl}
use native.Mathlib.Omega.{arith}
use Rattle.regex_marks.proofs.+copying.Goals as goal

-- copies
pub copies-shift-p-requires : goal.copies-shift-p-requires
copies-shift-p-requires t c = (omega (arith, c.decreases, c.requires.1), c.requires.0)

-- copies
pub copies-pack-requires : goal.copies-pack-requires
copies-pack-requires t c = let q = shifted_by c.unpack-s.ensures c.shift-p.ensures in rw c.bare-u.ensures (omega (arith, q.to, c.requires.0.words), omega arith)

-- copies
pub copies-returns-then-s-eq0 : goal.copies-returns-then-s-eq0
copies-returns-then-s-eq0 t c = copied_by (c.pack.ensures ∙ c.bare-u.ensures) (copied_bare _ _ _ _ _ c.requires.0.room _ (shifted_by c.unpack-s.ensures c.shift-p.ensures) _ _ c.requires.1 c.if-s-eq0.true)

-- copies
pub copies-link-u-requires : goal.copies-link-u-requires
copies-link-u-requires t c = let q = shifted_by c.unpack-s.ensures c.shift-p.ensures in rw c.last-t.ensures (omega (arith, q.fits, c.requires.0.few))

-- copies
pub copies-pack-requires-then-hi-eq1 : goal.copies-pack-requires-then-hi-eq1
copies-pack-requires-then-hi-eq1 t c = let q = shifted_by c.unpack-s.ensures c.shift-p.ensures in rw (c.link-u.ensures, c.last-t.ensures) (omega (arith, q.to, c.requires.0.words), omega (arith, q.fits, c.requires.0.few))

-- copies
pub copies-returns-then-hi-eq1 : goal.copies-returns-then-hi-eq1
copies-returns-then-hi-eq1 t c = copied_by c.pack-then-hi-eq1.ensures (rw (c.link-u.ensures, c.last-t.ensures) (copied_one _ _ _ _ _ c.requires.0.room _ (shifted_by c.unpack-s.ensures c.shift-p.ensures) _ _ c.if-hi-eq1.true))

-- copies
pub copies-overflow_add-b : goal.copies-overflow_add-b
copies-overflow_add-b t c = let q = shifted_by c.unpack-s.ensures c.shift-p.ensures in omega (arith, q.fits, c.requires.0.few)

-- copies
pub copies-overflow_sub-hi : goal.copies-overflow_sub-hi
copies-overflow_sub-hi t c = omega (arith, c.requires.1)

-- copies
pub copies-copies-q-requires : goal.copies-copies-q-requires
copies-copies-q-requires t c = (omega (arith, c.decreases, c.requires.1, c.if-hi-eq1.false), (again_fits c.requires.0 (shifted_by c.unpack-s.ensures c.shift-p.ensures), omega (arith, c.requires.1, c.if-hi-eq1.false)))

-- copies
pub copies-link-u-requires-2 : goal.copies-link-u-requires-2
copies-link-u-requires-2 t c = let q = shifted_by c.unpack-s.ensures c.shift-p.ensures in let p = copied_by c.unpack-t.ensures c.copies-q.ensures in omega (arith, p.fits, q.long, c.requires.0.few)

-- copies
pub copies-pack-requires-2 : goal.copies-pack-requires-2
copies-pack-requires-2 t c = let q = shifted_by c.unpack-s.ensures c.shift-p.ensures in let p = copied_by c.unpack-t.ensures c.copies-q.ensures in rw c.link-u-2.ensures (omega (arith, p.to, c.requires.0.words), omega (arith, p.fits, q.long, c.requires.0.few))

-- copies
pub copies-returns : goal.copies-returns
copies-returns t c = copied_by (c.pack-2.ensures ∙ c.link-u-2.ensures) (copied_more _ _ _ _ _ c.requires.0.room _ (shifted_by c.unpack-s.ensures c.shift-p.ensures) _ _ c.requires.1 c.less-l.ensures c.enters-m.ensures (copied_by c.unpack-t.ensures c.copies-q.ensures))

-- counted
pub counted-overflow_sub-code : goal.counted-overflow_sub-code
counted-overflow_sub-code t c = omega (arith, c.requires.0.place)

-- counted
pub counted-pack-requires : goal.counted-pack-requires
counted-pack-requires t c = rw c.stop-s.ensures (omega (arith, c.requires.0.place, c.requires.0.words), omega arith)

-- counted
pub counted-returns-then-code-at-lt3 : goal.counted-returns-then-code-at-lt3
counted-returns-then-code-at-lt3 t c = shifted_by (c.pack.ensures ∙ c.stop-s.ensures) (stop_short _ _ _ _ _ c.requires.0.room _ c.requires.1.here (omega (arith, c.requires.1.is)) c.if-code-at-lt3.true)

-- counted
pub counted-overflow_add-at : goal.counted-overflow_add-at
counted-overflow_add-at t c = omega (arith, c.requires.0.place, c.requires.0.words)

-- counted
pub counted-offset_bounds-code-at : goal.counted-offset_bounds-code-at
counted-offset_bounds-code-at t c = omega (arith, c.requires.0.place, c.requires.0.words)

-- counted
pub counted-bounds-code-at : goal.counted-bounds-code-at
counted-bounds-code-at t c = omega (arith, c.if-code-at-lt3.false)

-- counted
pub counted-overflow_add-at-2 : goal.counted-overflow_add-at-2
counted-overflow_add-at-2 t c = omega (arith, c.requires.0.place, c.requires.0.words)

-- counted
pub counted-offset_bounds-code-at-2 : goal.counted-offset_bounds-code-at-2
counted-offset_bounds-code-at-2 t c = omega (arith, c.requires.0.place, c.requires.0.words)

-- counted
pub counted-bounds-code-at-2 : goal.counted-bounds-code-at-2
counted-bounds-code-at-2 t c = omega (arith, c.if-code-at-lt3.false)

-- counted
pub counted-overflow_add-at-then-hi-eq0 : goal.counted-overflow_add-at-then-hi-eq0
counted-overflow_add-at-then-hi-eq0 t c = omega (arith, c.requires.0.place, c.requires.0.words)

-- counted
pub counted-pack-requires-then-hi-eq0 : goal.counted-pack-requires-then-hi-eq0
counted-pack-requires-then-hi-eq0 t c = rw c.unmarked-s.ensures (omega (arith, c.min.ensures, c.requires.0.words), omega arith)

-- counted
pub counted-returns-then-hi-eq0 : goal.counted-returns-then-hi-eq0
counted-returns-then-hi-eq0 t c = let k = clip_skip (omega (arith, c.if-code-at-lt3.false)) c.skip-n.ensures c.min.ensures in shifted_by (c.pack-then-hi-eq0.ensures ∙ c.unmarked-s.ensures) (shift_none _ _ _ _ _ c.requires.0.room _ c.requires.1.here c.requires.1.is c.wide-lo.ensures.0 c.wide-hi.ensures.0 c.if-hi-eq0.true k.0 k.1)

-- counted
pub counted-overflow_add-at-3 : goal.counted-overflow_add-at-3
counted-overflow_add-at-3 t c = omega (arith, c.requires.0.place, c.requires.0.words)

-- counted
pub counted-copies-requires : goal.counted-copies-requires
counted-copies-requires t c = (omega (arith, c.decreases, c.requires.1.here, c.if-code-at-lt3.false, c.wide-hi.type_inv), (record { place = omega (arith, c.if-code-at-lt3.false); words = c.requires.0.words; room = c.requires.0.room; few = c.requires.0.few }, omega (arith, c.if-hi-eq0.false)))

-- counted
pub counted-returns : goal.counted-returns
counted-returns t c = shift_upto _ _ _ _ _ c.requires.0.room _ c.requires.1.here c.requires.1.is c.wide-lo.ensures.0 c.wide-hi.ensures.0 c.copies.ensures

-- endless
pub endless-pack-requires : goal.endless-pack-requires
endless-pack-requires t c = rw c.stop-s.ensures (omega (arith, c.requires.place, c.requires.words), omega arith)

-- endless
pub endless-returns-then-marks-base : goal.endless-returns-then-marks-base
endless-returns-then-marks-base t c = endless_by (c.pack.ensures ∙ c.stop-s.ensures) (endless_room _ _ _ _ _ c.requires.room _ _ c.requires.place c.if-marks-base.true)

-- endless
pub endless-overflow_add-base : goal.endless-overflow_add-base
endless-overflow_add-base t c = omega (arith, c.if-marks-base.false, c.requires.few)

-- endless
pub endless-shift-p-requires : goal.endless-shift-p-requires
endless-shift-p-requires t c = (omega (arith, c.decreases), record { place = c.requires.place; words = c.requires.words; room = omega (arith, c.if-marks-base.false); few = c.requires.few })

-- endless
pub endless-bounds-marks-base-then-lo-le1 : goal.endless-bounds-marks-base-then-lo-le1
endless-bounds-marks-base-then-lo-le1 t c = omega (arith, c.shift-p.ensures.long, c.if-marks-base.false)

-- endless
pub endless-looped-u-requires : goal.endless-looped-u-requires
endless-looped-u-requires t c = let q = shifted_by c.unpack-s.ensures c.shift-p.ensures in omega (arith, q.fits, c.requires.few)

-- endless
pub endless-pack-requires-then-lo-le1 : goal.endless-pack-requires-then-lo-le1
endless-pack-requires-then-lo-le1 t c = let q = shifted_by c.unpack-s.ensures c.shift-p.ensures in rw c.looped-u.ensures (omega (arith, q.to, c.requires.words), omega (arith, q.fits, c.requires.few))

-- endless
pub endless-returns-then-lo-le1 : goal.endless-returns-then-lo-le1
endless-returns-then-lo-le1 t c = endless_by (c.pack-then-lo-le1.ensures ∙ c.looped-u.ensures) (endless_loop _ _ _ _ _ c.requires.room _ (shifted_by c.unpack-s.ensures c.shift-p.ensures) _ c.if-lo-le1.true c.if-marks-base.false _ c.bit.ensures _ c.either-m.ensures refl)

-- endless
pub endless-shift-p-requires-2 : goal.endless-shift-p-requires-2
endless-shift-p-requires-2 t c = (omega (arith, c.decreases), c.requires)

-- endless
pub endless-pack-requires-then-s-eq0 : goal.endless-pack-requires-then-s-eq0
endless-pack-requires-then-s-eq0 t c = let q = shifted_by c.unpack-s-2.ensures c.shift-p-2.ensures in rw c.bare_loop-u.ensures (omega (arith, q.to, c.requires.words), omega arith)

-- endless
pub endless-returns-then-s-eq0 : goal.endless-returns-then-s-eq0
endless-returns-then-s-eq0 t c = endless_by (c.pack-then-s-eq0.ensures ∙ c.bare_loop-u.ensures) (endless_hollow _ _ _ _ _ c.requires.room _ (shifted_by c.unpack-s-2.ensures c.shift-p-2.ensures) _ c.if-lo-le1.false c.if-s-eq0.true c.if-marks-base.false)

-- endless
pub endless-overflow_add-b : goal.endless-overflow_add-b
endless-overflow_add-b t c = let q = shifted_by c.unpack-s-2.ensures c.shift-p-2.ensures in omega (arith, q.fits, c.requires.few)

-- endless
pub endless-overflow_sub-lo : goal.endless-overflow_sub-lo
endless-overflow_sub-lo t c = omega (arith, c.if-lo-le1.false)

-- endless
pub endless-endless-q-requires : goal.endless-endless-q-requires
endless-endless-q-requires t c = (omega (arith, c.decreases, c.if-lo-le1.false), again_fits c.requires (shifted_by c.unpack-s-2.ensures c.shift-p-2.ensures))

-- endless
pub endless-chain-u-requires : goal.endless-chain-u-requires
endless-chain-u-requires t c = let q = shifted_by c.unpack-s-2.ensures c.shift-p-2.ensures in let p = endless_by c.unpack-t.ensures c.endless-q.ensures in omega (arith, p.fits, q.long, c.requires.few)

-- endless
pub endless-pack-requires-2 : goal.endless-pack-requires-2
endless-pack-requires-2 t c = let q = shifted_by c.unpack-s-2.ensures c.shift-p-2.ensures in let p = endless_by c.unpack-t.ensures c.endless-q.ensures in rw c.chain-u.ensures (omega (arith, p.to, c.requires.words), omega (arith, p.fits, q.long, c.requires.few))

-- endless
pub endless-returns : goal.endless-returns
endless-returns t c = endless_by (c.pack-2.ensures ∙ c.chain-u.ensures) (endless_more _ _ _ _ _ c.requires.room _ (shifted_by c.unpack-s-2.ensures c.shift-p-2.ensures) _ c.if-lo-le1.false c.enters-m.ensures (endless_by c.unpack-t.ensures c.endless-q.ensures))

-- least
pub least-overflow_sub-code : goal.least-overflow_sub-code
least-overflow_sub-code t c = omega (arith, c.requires.0.place)

-- least
pub least-pack-requires : goal.least-pack-requires
least-pack-requires t c = rw c.stop-s.ensures (omega (arith, c.requires.0.place, c.requires.0.words), omega arith)

-- least
pub least-returns-then-code-at-lt3 : goal.least-returns-then-code-at-lt3
least-returns-then-code-at-lt3 t c = shifted_by (c.pack.ensures ∙ c.stop-s.ensures) (stop_short _ _ _ _ _ c.requires.0.room _ c.requires.1.here (omega (arith, c.requires.1.is)) c.if-code-at-lt3.true)

-- least
pub least-overflow_add-at : goal.least-overflow_add-at
least-overflow_add-at t c = omega (arith, c.requires.0.place, c.requires.0.words)

-- least
pub least-offset_bounds-code-at : goal.least-offset_bounds-code-at
least-offset_bounds-code-at t c = omega (arith, c.requires.0.place, c.requires.0.words)

-- least
pub least-bounds-code-at : goal.least-bounds-code-at
least-bounds-code-at t c = omega (arith, c.if-code-at-lt3.false)

-- least
pub least-overflow_add-at-2 : goal.least-overflow_add-at-2
least-overflow_add-at-2 t c = omega (arith, c.requires.0.place, c.requires.0.words)

-- least
pub least-endless-requires : goal.least-endless-requires
least-endless-requires t c = (omega (arith, c.decreases, c.requires.1.here, c.if-code-at-lt3.false, c.wide-lo.type_inv), record { place = omega (arith, c.if-code-at-lt3.false); words = c.requires.0.words; room = c.requires.0.room; few = c.requires.0.few })

-- least
pub least-returns : goal.least-returns
least-returns t c = shift_any _ _ _ _ _ c.requires.0.room _ c.requires.1.here c.requires.1.is c.wide-lo.ensures.0 c.endless.ensures

-- shift
pub shift-pack-requires : goal.shift-pack-requires
shift-pack-requires t c = rw c.stop-s.ensures (omega (arith, c.requires.place, c.requires.words), omega arith)

-- shift
pub shift-returns-then-code-at : goal.shift-returns-then-code-at
shift-returns-then-code-at t c = shifted_by (c.pack.ensures ∙ c.stop-s.ensures) (stop_nothing _ _ _ _ _ c.requires.room _ c.requires.place c.if-code-at.true)

-- shift
pub shift-pack-requires-then-k-eq0 : goal.shift-pack-requires-then-k-eq0
shift-pack-requires-then-k-eq0 t c = rw c.unmarked-s.ensures (omega (arith, c.if-code-at.false, c.requires.words), omega arith)

-- shift
pub shift-returns-then-k-eq0 : goal.shift-returns-then-k-eq0
shift-returns-then-k-eq0 t c = shifted_by (c.pack-then-k-eq0.ensures ∙ c.unmarked-s.ensures) (shift_empty _ _ _ _ _ c.requires.room _ c.if-code-at.false c.if-k-eq0.true)

-- shift
pub shift-spot-s-requires : goal.shift-spot-s-requires
shift-spot-s-requires t c = record { fact_1 = record { here = c.if-code-at.false; is = c.if-k-eq1.true }; fact_2 = c.requires.room }

-- shift
pub shift-pack-requires-then-k-eq1 : goal.shift-pack-requires-then-k-eq1
shift-pack-requires-then-k-eq1 t c = shifted_fits c.requires c.spot-s.ensures

-- shift
pub shift-returns-then-k-eq1 : goal.shift-returns-then-k-eq1
shift-returns-then-k-eq1 t c = shifted_by c.pack-then-k-eq1.ensures c.spot-s.ensures

-- shift
pub shift-two-requires : goal.shift-two-requires
shift-two-requires t c = (omega (arith, c.decreases, c.if-code-at.false), (c.requires, (record { here = c.if-code-at.false; is = refl }, (omega (arith, c.if-k-eq0.false, c.if-k-eq1.false), c.if-k-le3.true))))

-- shift
pub shift-returns-then-k-le3 : goal.shift-returns-then-k-le3
shift-returns-then-k-le3 t c = c.two.ensures

-- shift
pub shift-counted-requires : goal.shift-counted-requires
shift-counted-requires t c = (omega (arith, c.decreases, c.if-code-at.false), (c.requires, record { here = c.if-code-at.false; is = c.if-k-eq4.true }))

-- shift
pub shift-returns-then-k-eq4 : goal.shift-returns-then-k-eq4
shift-returns-then-k-eq4 t c = c.counted.ensures

-- shift
pub shift-least-requires : goal.shift-least-requires
shift-least-requires t c = (omega (arith, c.decreases, c.if-code-at.false), (c.requires, record { here = c.if-code-at.false; is = c.if-k-eq5.true }))

-- shift
pub shift-returns-then-k-eq5 : goal.shift-returns-then-k-eq5
shift-returns-then-k-eq5 t c = c.least.ensures

-- shift
pub shift-pack-requires-2 : goal.shift-pack-requires-2
shift-pack-requires-2 t c = rw c.stop-s-2.ensures (omega (arith, c.requires.place, c.requires.words), omega arith)

-- shift
pub shift-returns : goal.shift-returns
shift-returns t c = shifted_by (c.pack-2.ensures ∙ c.stop-s-2.ensures) (stop_other _ _ _ _ _ c.requires.room _ c.if-code-at.false c.if-k-eq0.false c.if-k-eq1.false (λ e. omega (arith, e, c.if-k-le3.false)) (λ e. omega (arith, e, c.if-k-le3.false)) c.if-k-eq4.false c.if-k-eq5.false)

-- two
pub two-overflow_add-at : goal.two-overflow_add-at
two-overflow_add-at t c = omega (arith, c.requires.0.place, c.requires.0.words)

-- two
pub two-shift-p-requires : goal.two-shift-p-requires
two-shift-p-requires t c = (omega (arith, c.decreases, c.requires.1.0.here), record { place = omega (arith, c.requires.1.0.here); words = c.requires.0.words; room = c.requires.0.room; few = c.requires.0.few })

-- two
pub two-overflow_add-b : goal.two-overflow_add-b
two-overflow_add-b t c = let q = shifted_by c.unpack-s.ensures c.shift-p.ensures in omega (arith, q.fits, c.requires.0.few)

-- two
pub two-shift-q-requires : goal.two-shift-q-requires
two-shift-q-requires t c = let q = shifted_by c.unpack-s.ensures c.shift-p.ensures in (omega (arith, c.decreases, c.requires.1.0.here, q.from, q.to), next_fits c.requires.0 q)

-- two
pub two-joined-u-requires : goal.two-joined-u-requires
two-joined-u-requires t c = let q = shifted_by c.unpack-s.ensures c.shift-p.ensures in let p = shifted_by c.unpack-t.ensures c.shift-q.ensures in omega (arith, p.fits, q.long, c.requires.0.few)

-- two
pub two-pack-requires : goal.two-pack-requires
two-pack-requires t c = let q = shifted_by c.unpack-s.ensures c.shift-p.ensures in let p = shifted_by c.unpack-t.ensures c.shift-q.ensures in rw c.joined-u.ensures (shifted_fits c.requires.0 (shift_two c.requires.0 c.requires.1.0 c.requires.1.1 q p c.second-m.ensures))

-- two
pub two-returns : goal.two-returns
two-returns t c = let q = shifted_by c.unpack-s.ensures c.shift-p.ensures in let p = shifted_by c.unpack-t.ensures c.shift-q.ensures in shifted_by (c.pack.ensures ∙ c.joined-u.ensures) (shift_two c.requires.0 c.requires.1.0 c.requires.1.1 q p c.second-m.ensures)
