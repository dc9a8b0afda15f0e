-- The answers of the cycle of calls {base, basis, framed, more, oper, segs, sel, sels, side, test}.
use Prim.Native.Nat.{ℕ, ◌+◌}
use Rattle.plan_check.proofs.LawsTest.{base_none, base_side, base_tested, more_start, more_end, more_deep, more_not, more_none, more_behind, more_stop, more_right, test_none, test_more}
use Rattle.plan_check.proofs.Steps.{read_of, none_of, low_of, short_of, asks_on, small_read, small_none}
use Rattle.plan_items.proofs.Words.{kind_in_at}
use native.Mathlib.Omega.{arith}
use Rattle.plan_check.proofs.LawsOper.{basis_root, basis_current, basis_literal_lem, oper_next, oper_none, relation_small, side_flat, side_none, side_plural, side_unasked, side_deep, side_found}
use Rattle.plan_check.proofs.LawsSel.{sel_start, lent_long, framed_short, framed_flat, framed_long, framed_start, framed_none, framed_found, sel_name, sel_index, sel_slice, sel_filter, sel_within, sel_wildcard, sel_none, sels_start, sels_none, sels_last, sels_more}
use mathlib.Core.Path.{refl, ap}
use mathlib.Core.Bool.{true, false}
use Rattle.plan_check.proofs.LawsSegs.{sort_of_lem, segs_start, segs_end, segs_none, segs_short, segs_zero, segs_stop, segs_more, segs_behind}
use Rattle.plan_check.proofs.+forms.Goals as goal
use Rattle.plan_check.proofs.+forms.Goals.{more-else-k-ne-AND-via-then-k-ne-AND+else-k-ne-OR, more-else-k-ne-AND-via-else-k-ne-AND, segs-else-k-ne-CHILD-via-then-k-ne-CHILD+else-k-ne-DESCENDANT, segs-else-k-ne-CHILD-via-else-k-ne-CHILD}

-- base
pub base-oper-requires : goal.base-oper-requires
base-oper-requires t c = (omega (arith, c.decreases), c.requires)

-- base
pub base-side-requires : goal.base-side-requires
base-side-requires t c = (omega (arith, c.decreases, (read_of c.oper.ensures c.in_ok-a.was).to), (asks_on c.requires (read_of c.oper.ensures c.in_ok-a.was), low_of (read_of c.oper.ensures c.in_ok-a.was)))

-- base
pub base-returns-then-kind-ne-TEST : goal.base-returns-then-kind-ne-TEST
base-returns-then-kind-ne-TEST t c = base_side (short_of c.requires) (read_of c.oper.ensures c.in_ok-a.was) c.kind.ensures c.if-kind-ne-TEST.true c.side.ensures

-- base
pub base-tested-requires : goal.base-tested-requires
base-tested-requires t c = (kind_in_at c.kind.ensures c.if-kind-ne-TEST.false, low_of (read_of c.oper.ensures c.in_ok-a.was), c.requires.deep)

-- base
pub base-returns-in_err-a : goal.base-returns-in_err-a
base-returns-in_err-a t c = rw c.from_residual.ensures (base_none (none_of c.oper.ensures c.in_err-a.was))

-- base
pub base-returns : goal.base-returns
base-returns t c = base_tested (short_of c.requires) (read_of c.oper.ensures c.in_ok-a.was) c.kind.ensures (read_of c.oper.ensures c.in_ok-a.was).held c.if-kind-ne-TEST.false c.tested.ensures

-- basis
pub basis-overflow_add-at : goal.basis-overflow_add-at
basis-overflow_add-at t c = omega (arith, kind_in_at c.kind-k.ensures c.if-k-eq-ROOT.true)

-- basis
pub basis-segs-requires : goal.basis-segs-requires
basis-segs-requires t c = (omega (arith, c.decreases, kind_in_at c.kind-k.ensures c.if-k-eq-ROOT.true), sel_start c.requires c.kind-k.ensures c.if-k-eq-ROOT.true)

-- basis
pub basis-returns-then-k-eq-ROOT : goal.basis-returns-then-k-eq-ROOT
basis-returns-then-k-eq-ROOT t c = basis_root c.kind-k.ensures c.if-k-eq-ROOT.true c.segs.ensures

-- basis
pub basis-overflow_add-at-then-k-eq-CURRENT : goal.basis-overflow_add-at-then-k-eq-CURRENT
basis-overflow_add-at-then-k-eq-CURRENT t c = omega (arith, kind_in_at c.kind-k.ensures c.if-k-eq-CURRENT.true)

-- basis
pub basis-segs-requires-then-k-eq-CURRENT : goal.basis-segs-requires-then-k-eq-CURRENT
basis-segs-requires-then-k-eq-CURRENT t c = (omega (arith, c.decreases, kind_in_at c.kind-k.ensures c.if-k-eq-CURRENT.true), sel_start c.requires c.kind-k.ensures c.if-k-eq-CURRENT.true)

-- basis
pub basis-returns-then-k-eq-CURRENT : goal.basis-returns-then-k-eq-CURRENT
basis-returns-then-k-eq-CURRENT t c = basis_current c.kind-k.ensures c.if-k-eq-CURRENT.true c.segs-then-k-eq-CURRENT.ensures

-- basis
pub basis-literal-requires : goal.basis-literal-requires
basis-literal-requires t c = record { plan = c.requires.plan; pool = c.requires.pool; few = c.requires.few }

-- basis
pub basis-returns : goal.basis-returns
basis-returns t c = basis_literal_lem c.kind-k.ensures c.if-k-eq-ROOT.false c.if-k-eq-CURRENT.false c.literal.ensures

-- framed
pub framed-overflow_sub-plan : goal.framed-overflow_sub-plan
framed-overflow_sub-plan t c = omega (arith, c.requires.plan)

-- framed
pub framed-returns-then-plan-at-lt-SIZE_BODY : goal.framed-returns-then-plan-at-lt-SIZE_BODY
framed-returns-then-plan-at-lt-SIZE_BODY t c = framed_short c.requires c.if-plan-at-lt-SIZE_BODY.true

-- framed
pub framed-returns-then-room-eq0 : goal.framed-returns-then-room-eq0
framed-returns-then-room-eq0 t c = framed_flat c.requires c.if-room-eq0.true

-- framed
pub framed-word16-n-requires : goal.framed-word16-n-requires
framed-word16-n-requires t c = omega (arith, c.requires.plan)

-- framed
pub framed-overflow_add-a : goal.framed-overflow_add-a
framed-overflow_add-a t c = omega (arith, c.requires.small)

-- framed
pub framed-overflow_sub-plan-2 : goal.framed-overflow_sub-plan-2
framed-overflow_sub-plan-2 t c = omega (arith, c.requires.plan)

-- framed
pub framed-returns-then-plan-a : goal.framed-returns-then-plan-a
framed-returns-then-plan-a t c = framed_long c.requires (λ i. (c.type_inv.plan i).fits) c.if-plan-at-lt-SIZE_BODY.false c.word16-n.ensures c.if-plan-a.true

-- framed
pub framed-overflow_add-e : goal.framed-overflow_add-e
framed-overflow_add-e t c = omega (arith, c.requires.small)

-- framed
pub framed-slice_bounds-test-count : goal.framed-slice_bounds-test-count
framed-slice_bounds-test-count t c = omega (arith, c.requires.small)

-- framed
pub framed-slice_bounds-test-start : goal.framed-slice_bounds-test-start
framed-slice_bounds-test-start t c = omega (arith, c.requires.small)

-- framed
pub framed-slice_bounds-test-end : goal.framed-slice_bounds-test-end
framed-slice_bounds-test-end t c = omega (arith, c.requires.small)

-- framed
pub framed-overflow_sub-room : goal.framed-overflow_sub-room
framed-overflow_sub-room t c = omega arith

-- framed
pub framed-test-requires : goal.framed-test-requires
framed-test-requires t c = (omega (arith, c.decreases, lent_long c.requires (λ i. (c.type_inv.plan i).fits) c.if-plan-at-lt-SIZE_BODY.false c.word16-n.ensures c.if-plan-a.false), framed_start c.requires (λ i. (c.type_inv.plan i).fits) c.if-plan-at-lt-SIZE_BODY.false c.word16-n.ensures c.if-plan-a.false refl)

-- framed
pub framed-overflow_add-result : goal.framed-overflow_add-result
framed-overflow_add-result t c = omega (arith, low_of (read_of c.test.ensures c.in_ok-g.was), c.requires.deep)

-- framed
pub framed-returns-in_err-g : goal.framed-returns-in_err-g
framed-returns-in_err-g t c = rw c.from_residual.ensures (framed_none c.requires (λ i. (c.type_inv.plan i).fits) c.if-plan-at-lt-SIZE_BODY.false c.word16-n.ensures c.if-plan-a.false refl (none_of c.test.ensures c.in_err-g.was))

-- framed
pub framed-returns : goal.framed-returns
framed-returns t c = framed_found c.requires (λ i. (c.type_inv.plan i).fits) c.if-plan-at-lt-SIZE_BODY.false c.word16-n.ensures c.if-plan-a.false refl c.if-room-eq0.false (read_of c.test.ensures c.in_ok-g.was)

-- more
pub more-loop-at-init : goal.more-loop-at-init
more-loop-at-init t c = more_start c.requires.0 c.requires.1

-- more
pub more-returns-then-room-h : goal.more-returns-then-room-h
more-returns-then-room-h t c = more_deep c.loop-at.invariant c.kind-k.ensures c.if-k-eq-NOT.true c.if-room-h.true

-- more
pub more-overflow_add-at : goal.more-overflow_add-at
more-overflow_add-at t c = omega (arith, kind_in_at c.kind-k.ensures c.if-k-eq-NOT.true)

-- more
pub more-overflow_add-h : goal.more-overflow_add-h
more-overflow_add-h t c = omega (arith, c.loop-at.invariant.start.deep)

-- more
pub more-loop-at-smaller-then-k-eq-NOT : goal.more-loop-at-smaller-then-k-eq-NOT
more-loop-at-smaller-then-k-eq-NOT t c = omega (arith, kind_in_at c.kind-k.ensures c.if-k-eq-NOT.true)

-- more
pub more-loop-at-preserved-then-k-eq-NOT : goal.more-loop-at-preserved-then-k-eq-NOT
more-loop-at-preserved-then-k-eq-NOT t c = more_not c.loop-at.invariant c.kind-k.ensures c.if-k-eq-NOT.true c.if-room-h.false

-- more
pub more-returns-then-k-ne-OR : goal.more-returns-then-k-ne-OR
more-returns-then-k-ne-OR t c = more_none c.loop-at.invariant c.kind-k.ensures c.if-k-eq-NOT.false c.loop-at-test.true c.if-k-ne-AND.true c.if-k-ne-OR.true

-- more
pub more-overflow_add-at-else-k-eq-NOT : goal.more-overflow_add-at-else-k-eq-NOT
more-overflow_add-at-else-k-eq-NOT t c = omega (arith, c.loop-at-test.true)

-- more
pub more-framed-requires : goal.more-framed-requires
more-framed-requires t c = (omega (arith, c.decreases, c.loop-at.invariant.from, c.loop-at-test.true), more_behind c.loop-at.invariant c.kind-k.ensures c.if-k-eq-NOT.false (elim c.else-k-ne-AND.branch [ more-else-k-ne-AND-via-then-k-ne-AND+else-k-ne-OR w ↦ (false, w.if-k-ne-OR.false) | more-else-k-ne-AND-via-else-k-ne-AND w ↦ (true, w.if-k-ne-AND.false) ]))

-- more
pub more-returns-in_err-g : goal.more-returns-in_err-g
more-returns-in_err-g t c = rw c.from_residual.ensures (more_stop c.loop-at.invariant c.kind-k.ensures c.if-k-eq-NOT.false (elim c.else-k-ne-AND.branch [ more-else-k-ne-AND-via-then-k-ne-AND+else-k-ne-OR w ↦ (false, w.if-k-ne-OR.false) | more-else-k-ne-AND-via-else-k-ne-AND w ↦ (true, w.if-k-ne-AND.false) ]) (none_of c.framed.ensures c.in_err-g.was))

-- more
pub more-loop-at-smaller : goal.more-loop-at-smaller
more-loop-at-smaller t c = omega (arith, (read_of c.framed.ensures c.in_ok-g.was).from, c.loop-at-test.true)

-- more
pub more-loop-at-preserved : goal.more-loop-at-preserved
more-loop-at-preserved t c = more_right c.loop-at.invariant c.kind-k.ensures c.if-k-eq-NOT.false (elim c.else-k-ne-AND.branch [ more-else-k-ne-AND-via-then-k-ne-AND+else-k-ne-OR w ↦ (false, w.if-k-ne-OR.false) | more-else-k-ne-AND-via-else-k-ne-AND w ↦ (true, w.if-k-ne-AND.false) ]) c.most-h.ensures (read_of c.framed.ensures c.in_ok-g.was)

-- more
pub more-returns : goal.more-returns
more-returns t c = more_end c.loop-at.invariant c.loop-at-test.false

-- oper
pub oper-basis-requires : goal.oper-basis-requires
oper-basis-requires t c = (omega (arith, c.decreases), c.requires)

-- oper
pub oper-calls-requires : goal.oper-calls-requires
oper-calls-requires t c = ((read_of c.basis.ensures c.in_ok-g.was).to, low_of (read_of c.basis.ensures c.in_ok-g.was), c.requires.deep)

-- oper
pub oper-returns-in_err-g : goal.oper-returns-in_err-g
oper-returns-in_err-g t c = rw c.from_residual.ensures (oper_none (none_of c.basis.ensures c.in_err-g.was))

-- oper
pub oper-returns : goal.oper-returns
oper-returns t c = oper_next (short_of c.requires) (read_of c.basis.ensures c.in_ok-g.was) c.calls.ensures

-- segs
pub segs-loop-from-init : goal.segs-loop-from-init
segs-loop-from-init t c = segs_start c.requires

-- segs
pub segs-overflow_add-result : goal.segs-overflow_add-result
segs-overflow_add-result t c = omega (arith, kind_in_at c.kind-k.ensures c.if-k-eq-END.true)

-- segs
pub segs-returns-then-k-eq-END : goal.segs-returns-then-k-eq-END
segs-returns-then-k-eq-END t c = segs_end c.loop-from.invariant c.kind-k.ensures c.if-k-eq-END.true

-- segs
pub segs-returns-then-k-ne-DESCENDANT : goal.segs-returns-then-k-ne-DESCENDANT
segs-returns-then-k-ne-DESCENDANT t c = segs_none c.loop-from.invariant c.kind-k.ensures c.if-k-eq-END.false c.if-k-ne-CHILD.true c.if-k-ne-DESCENDANT.true

-- segs
pub segs-overflow_sub-plan : goal.segs-overflow_sub-plan
segs-overflow_sub-plan t c = omega (arith, c.loop-from.invariant.start.plan)

-- segs
pub segs-returns-then-plan-at-lt-SIZE_ITEM : goal.segs-returns-then-plan-at-lt-SIZE_ITEM
segs-returns-then-plan-at-lt-SIZE_ITEM t c = segs_short c.loop-from.invariant c.kind-k.ensures c.if-k-eq-END.false c.if-plan-at-lt-SIZE_ITEM.true

-- segs
pub segs-overflow_add-at : goal.segs-overflow_add-at
segs-overflow_add-at t c = omega (arith, c.if-plan-at-lt-SIZE_ITEM.false)

-- segs
pub segs-word16-n-requires : goal.segs-word16-n-requires
segs-word16-n-requires t c = omega (arith, c.if-plan-at-lt-SIZE_ITEM.false)

-- segs
pub segs-returns-then-n-eq0 : goal.segs-returns-then-n-eq0
segs-returns-then-n-eq0 t c = segs_zero c.loop-from.invariant c.kind-k.ensures c.if-k-eq-END.false (λ i. (c.type_inv.plan i).fits) c.if-plan-at-lt-SIZE_ITEM.false c.word16-n.ensures (elim c.else-k-ne-CHILD.branch [ segs-else-k-ne-CHILD-via-then-k-ne-CHILD+else-k-ne-DESCENDANT w ↦ (false, w.if-k-ne-DESCENDANT.false) | segs-else-k-ne-CHILD-via-else-k-ne-CHILD w ↦ (true, w.if-k-ne-CHILD.false) ]) c.if-n-eq0.true

-- segs
pub segs-overflow_add-at-in-loop-from : goal.segs-overflow_add-at-in-loop-from
segs-overflow_add-at-in-loop-from t c = omega (arith, c.if-plan-at-lt-SIZE_ITEM.false)

-- segs
pub segs-sels-requires : goal.segs-sels-requires
segs-sels-requires t c = (omega (arith, c.decreases, c.loop-from.invariant.from, c.if-plan-at-lt-SIZE_ITEM.false), (segs_behind c.loop-from.invariant c.if-plan-at-lt-SIZE_ITEM.false, omega arith))

-- segs
pub segs-returns-in_err-g : goal.segs-returns-in_err-g
segs-returns-in_err-g t c = rw c.from_residual.ensures (segs_stop c.loop-from.invariant c.kind-k.ensures c.if-k-eq-END.false (λ i. (c.type_inv.plan i).fits) c.if-plan-at-lt-SIZE_ITEM.false c.word16-n.ensures (elim c.else-k-ne-CHILD.branch [ segs-else-k-ne-CHILD-via-then-k-ne-CHILD+else-k-ne-DESCENDANT w ↦ (false, w.if-k-ne-DESCENDANT.false) | segs-else-k-ne-CHILD-via-else-k-ne-CHILD w ↦ (true, w.if-k-ne-CHILD.false) ]) (none_of c.sels.ensures c.in_err-g.was))

-- segs
pub segs-single-sort-requires : goal.segs-single-sort-requires
segs-single-sort-requires t c = (c.loop-from.invariant.bit, sort_of_lem c.word16-n.result (read_of c.sels.ensures c.in_ok-g.was))

-- segs
pub segs-loop-from-smaller : goal.segs-loop-from-smaller
segs-loop-from-smaller t c = omega (arith, (read_of c.sels.ensures c.in_ok-g.was).from, c.if-plan-at-lt-SIZE_ITEM.false)

-- segs
pub segs-loop-from-preserved : goal.segs-loop-from-preserved
segs-loop-from-preserved t c = segs_more c.loop-from.invariant c.kind-k.ensures c.if-k-eq-END.false (λ i. (c.type_inv.plan i).fits) c.if-plan-at-lt-SIZE_ITEM.false c.word16-n.ensures (elim c.else-k-ne-CHILD.branch [ segs-else-k-ne-CHILD-via-then-k-ne-CHILD+else-k-ne-DESCENDANT w ↦ (false, w.if-k-ne-DESCENDANT.false) | segs-else-k-ne-CHILD-via-else-k-ne-CHILD w ↦ (true, w.if-k-ne-CHILD.false) ]) c.most-h.ensures c.single-sort.ensures (read_of c.sels.ensures c.in_ok-g.was)

-- sel
pub sel-overflow_add-at : goal.sel-overflow_add-at
sel-overflow_add-at t c = omega (arith, kind_in_at c.kind-k.ensures c.if-k-eq-NAME.true)

-- sel
pub sel-text-requires : goal.sel-text-requires
sel-text-requires t c = sel_within c.requires c.kind-k.ensures c.if-k-eq-NAME.true

-- sel
pub sel-returns-then-k-eq-NAME : goal.sel-returns-then-k-eq-NAME
sel-returns-then-k-eq-NAME t c = sel_name c.requires c.kind-k.ensures c.if-k-eq-NAME.true c.text.ensures

-- sel
pub sel-overflow_add-at-then-k-eq-INDEX : goal.sel-overflow_add-at-then-k-eq-INDEX
sel-overflow_add-at-then-k-eq-INDEX t c = omega (arith, kind_in_at c.kind-k.ensures c.if-k-eq-INDEX.true)

-- sel
pub sel-index-requires : goal.sel-index-requires
sel-index-requires t c = kind_in_at c.kind-k.ensures c.if-k-eq-INDEX.true

-- sel
pub sel-returns-then-k-eq-INDEX : goal.sel-returns-then-k-eq-INDEX
sel-returns-then-k-eq-INDEX t c = sel_index c.requires c.kind-k.ensures c.if-k-eq-INDEX.true c.index.ensures

-- sel
pub sel-overflow_add-at-then-k-eq-SLICE : goal.sel-overflow_add-at-then-k-eq-SLICE
sel-overflow_add-at-then-k-eq-SLICE t c = omega (arith, kind_in_at c.kind-k.ensures c.if-k-eq-SLICE.true)

-- sel
pub sel-slice-requires : goal.sel-slice-requires
sel-slice-requires t c = kind_in_at c.kind-k.ensures c.if-k-eq-SLICE.true

-- sel
pub sel-returns-then-k-eq-SLICE : goal.sel-returns-then-k-eq-SLICE
sel-returns-then-k-eq-SLICE t c = sel_slice c.requires c.kind-k.ensures c.if-k-eq-SLICE.true c.slice.ensures

-- sel
pub sel-overflow_add-result : goal.sel-overflow_add-result
sel-overflow_add-result t c = omega (arith, kind_in_at c.kind-k.ensures c.if-k-eq-WILDCARD.true)

-- sel
pub sel-returns-then-k-eq-WILDCARD : goal.sel-returns-then-k-eq-WILDCARD
sel-returns-then-k-eq-WILDCARD t c = sel_wildcard c.requires c.kind-k.ensures c.if-k-eq-WILDCARD.true

-- sel
pub sel-overflow_add-at-then-k-eq-FILTER : goal.sel-overflow_add-at-then-k-eq-FILTER
sel-overflow_add-at-then-k-eq-FILTER t c = omega (arith, kind_in_at c.kind-k.ensures c.if-k-eq-FILTER.true)

-- sel
pub sel-framed-requires : goal.sel-framed-requires
sel-framed-requires t c = (omega (arith, c.decreases, kind_in_at c.kind-k.ensures c.if-k-eq-FILTER.true), sel_start c.requires c.kind-k.ensures c.if-k-eq-FILTER.true)

-- sel
pub sel-returns-then-k-eq-FILTER : goal.sel-returns-then-k-eq-FILTER
sel-returns-then-k-eq-FILTER t c = sel_filter c.requires c.kind-k.ensures c.if-k-eq-FILTER.true c.framed.ensures

-- sel
pub sel-returns : goal.sel-returns
sel-returns t c = sel_none c.requires c.kind-k.ensures c.if-k-eq-NAME.false c.if-k-eq-INDEX.false c.if-k-eq-SLICE.false c.if-k-eq-WILDCARD.false c.if-k-eq-FILTER.false

-- sels
pub sels-loop-g-init : goal.sels-loop-g-init
sels-loop-g-init t c = sels_start c.requires.0 c.requires.1

-- sels
pub sels-sel-requires : goal.sels-sel-requires
sels-sel-requires t c = (omega (arith, c.decreases, c.loop-g.invariant.from), c.loop-g.invariant.start)

-- sels
pub sels-returns-in_err-g : goal.sels-returns-in_err-g
sels-returns-in_err-g t c = rw c.from_residual.ensures (sels_none c.loop-g.invariant (none_of c.sel.ensures c.in_err-g.was))

-- sels
pub sels-returns-then-left-eq1 : goal.sels-returns-then-left-eq1
sels-returns-then-left-eq1 t c = sels_last c.loop-g.invariant (read_of c.sel.ensures c.in_ok-g.was) c.most-h.ensures c.if-left-eq1.true

-- sels
pub sels-overflow_sub-left : goal.sels-overflow_sub-left
sels-overflow_sub-left t c = omega (arith, c.loop-g.invariant.some)

-- sels
pub sels-loop-g-smaller : goal.sels-loop-g-smaller
sels-loop-g-smaller t c = omega (arith, c.loop-g.invariant.some)

-- sels
pub sels-loop-g-preserved : goal.sels-loop-g-preserved
sels-loop-g-preserved t c = sels_more c.loop-g.invariant (read_of c.sel.ensures c.in_ok-g.was) c.most-h.ensures c.if-left-eq1.false

-- side
pub side-returns-then-a-eq0 : goal.side-returns-then-a-eq0
side-returns-then-a-eq0 t c = side_flat c.args.a.h c.args.a.sort c.if-a-eq0.true

-- side
pub side-oper-requires : goal.side-oper-requires
side-oper-requires t c = (omega (arith, c.decreases), c.requires.0)

-- side
pub side-returns-then-b-eq0 : goal.side-returns-then-b-eq0
side-returns-then-b-eq0 t c =
    let rb = read_of c.oper.ensures c.in_ok-b.was in
    side_plural c.args.a.h c.args.a.sort (short_of c.requires.0) rb c.if-b-eq0.true

-- side
pub side-overflow_add-h : goal.side-overflow_add-h
side-overflow_add-h t c =
    let rb = read_of c.oper.ensures c.in_ok-b.was in
    let rc = small_read {L = c.args.pool.now} {room = c.args.room} c.relation.ensures c.in_ok-c.was rb.held in
    omega (arith, relation_small rc, c.most.ensures, low_of rb, c.requires.1, c.requires.0.deep)

-- side
pub side-returns-then-room-h : goal.side-returns-then-room-h
side-returns-then-room-h t c =
    let rb = read_of c.oper.ensures c.in_ok-b.was in
    let rc = small_read c.relation.ensures c.in_ok-c.was rb.held in
    side_deep c.args.a.h c.args.a.sort (short_of c.requires.0) rb rc (ap (λ (z : ℕ). c.in_ok-c.c.sort + z) c.most.ensures) c.if-room-h.true

-- side
pub side-returns-in_err-b : goal.side-returns-in_err-b
side-returns-in_err-b t c = rw c.from_residual.ensures (side_none c.args.a.h c.args.a.sort (none_of c.oper.ensures c.in_err-b.was))

-- side
pub side-returns-in_err-c : goal.side-returns-in_err-c
side-returns-in_err-c t c =
    let rb = read_of c.oper.ensures c.in_ok-b.was in
    rw c.from_residual-in_err-c.ensures (side_unasked c.args.a.h c.args.a.sort (short_of c.requires.0) rb (none_of ((small_none c.relation.ensures c.in_err-c.was).any _ _ rb.held) refl))

-- side
pub side-returns : goal.side-returns
side-returns t c =
    let rb = read_of c.oper.ensures c.in_ok-b.was in
    let rc = small_read c.relation.ensures c.in_ok-c.was rb.held in
    side_found c.args.a.h c.args.a.sort (short_of c.requires.0) rb rc (ap (λ (z : ℕ). c.in_ok-c.c.sort + z) c.most.ensures) c.if-a-eq0.false c.if-b-eq0.false c.if-room-h.false

-- test
pub test-base-requires : goal.test-base-requires
test-base-requires t c = (omega (arith, c.decreases), c.requires)

-- test
pub test-more-requires : goal.test-more-requires
test-more-requires t c = (omega (arith, c.decreases, (read_of c.base.ensures c.in_ok-g.was).to), (asks_on c.requires (read_of c.base.ensures c.in_ok-g.was), low_of (read_of c.base.ensures c.in_ok-g.was)))

-- test
pub test-returns-in_err-g : goal.test-returns-in_err-g
test-returns-in_err-g t c = rw c.from_residual.ensures (test_none (none_of c.base.ensures c.in_err-g.was))

-- test
pub test-returns : goal.test-returns
test-returns t c = test_more (short_of c.requires) (read_of c.base.ensures c.in_ok-g.was) c.more.ensures
