-- The answers of the cycle of calls {apply_selector, apply_selectors, descend_flats, each_child, each_place, eval_filter, eval_filter_expr, eval_query, eval_test, evaluate_segment, next_kept, recursive_descent, rows-keep, rows-tell, rows-turn}.
use Prim.Native.Nat.{ℕ, ◌<◌}
use lib.ListN.{get_or, length-set}
use Rattle.eval_asks.specs.Lent.{plan_of}
use mathlib.Core.Path.{refl, ◌∙◌, sym, ap}
use native.Mathlib.Omega.{arith}
use borrow.Author.Tests.{not-true, not-false}
use Rattle.eval_laws.specs.Ranges.{range_of_lem, range_in}
use Rattle.eval_asks.specs.Steady.{steady_refl, steady_then, steady_wrote, asked_later, going_asked, going_start}
use Rattle.eval.specs.Calls.{here_push, here_ends, selector_room, parts_bound, parts_skip, selectors_start, selectors_asked, selectors_in, selectors_passed, selectors_again, selectors_done, selectors_next, selectors_room, descent_room, descent_selectors, descent_again, descent_ended, descent_done, child_of, segment_room, reach_asked, reached_in, segment_lost, push_found, segment_ends, selectors_found, segment_child_done, descent_found, segment_descent_done}
use Rattle.eval_asks.specs.Kinds.{one_asked, rest_in, selector_absent, found_asked, selector_found, each_asked, wildcard_done, kept_after, kept_room, kind_filter, each_none, each_ended, numbers_asked, each_again, each_full, each_end, each_enters, slice_walk, placed_asked, placed_in, walked_asked, slice_ended, slice_done_all, place_in, place_near, places_again, places_full, places_end, filter_bound, filter_inside, rest_asked, next_asked, test_asked, kept_in_table, filter_done, filter_start, filter_end_all, filter_left, filter_full, filter_again, next_later, next_found, next_end, next_again}
use Rattle.eval_laws.specs.Items.{segments_in}
use Rattle.eval_front.specs.Turns.{leads_in}
use Rattle.eval.specs.Alone.{enter_head, enter_selector, enter_done, wildcard_ends, query_bound}
use Rattle.eval_asks.specs.Rows.{rows_given, rows_next, rows_then}
use Rattle.eval.specs.Columns.{none_passed, next_met, code_near, kept_none, rest_here, goes_here, cells_first, cells_next, cells_filled, cell_within, cell_here, cells_full, cells_end, cells_out, cells_in, tell_start, later_less, turn_within, turn_place, turn_asked, turn_set}
use Rattle.eval_filters.specs.Turns.{turn_left}
use Rattle.eval.specs.Loops.{turn_here, said_met, said_told, clear_left, said_test, said_rest, said_later, rest_start, rest_later}
use Rattle.eval_filters.specs.Queries.{begins_in, past_of, found_lost, found_one}
use Rattle.eval.specs.Queries.{cap_small, query_done, here, nested_found, nested_head, walk_found}
use Rattle.eval_laws.specs.Todos.{todo_in}
use Rattle.eval_asks.specs.Cells.{left_ended}
use mathlib.Core.Bool.{not}
use Rattle.eval.proofs.+evaluation.Goals as goal

-- apply_selector
pub apply_selector-bounds-plan-p : goal.apply_selector-bounds-plan-p
apply_selector-bounds-plan-p t c = let w = rest_in c.requires.asked c.requires.ask_selector in omega (arith, w.0, w.1)

-- apply_selector
pub apply_selector-select_one-found-requires : goal.apply_selector-select_one-found-requires
apply_selector-select_one-found-requires t c = one_asked c.requires.asked c.requires.ask_selector c.if-k-le-INDEX.true

-- apply_selector
pub apply_selector-returns-in_default : goal.apply_selector-returns-in_default
apply_selector-returns-in_default t c = record { steady = steady_refl _ _; done_selector = selector_absent c.requires.asked c.requires.ask_selector c.select_one-found.ensures c.in_default.is }

-- apply_selector
pub apply_selector-bounds-plan-rest : goal.apply_selector-bounds-plan-rest
apply_selector-bounds-plan-rest t c = let w = rest_in c.requires.asked c.requires.ask_selector in omega (arith, w.0, w.1)

-- apply_selector
pub apply_selector-push-next-requires : goal.apply_selector-push-next-requires
apply_selector-push-next-requires t c = here_push c.requires.asked (found_asked c.requires.asked c.requires.ask_selector c.select_one-found.ensures _ c.in-Some.is)

-- apply_selector
pub apply_selector-returns-then-plan-rest-eq-END : goal.apply_selector-returns-then-plan-rest-eq-END
apply_selector-returns-then-plan-rest-eq-END t c = record { steady = steady_wrote _ _ _ _ c.push-next.auto.list refl; done_selector = selector_found c.requires.asked c.requires.ask_selector c.select_one-found.ensures _ c.in-Some.is (here_ends c.requires.asked (found_asked c.requires.asked c.requires.ask_selector c.select_one-found.ensures _ c.in-Some.is) c.if-plan-rest-eq-END.true _ _ c.push-next.ensures) }

-- apply_selector
pub apply_selector-evaluate_segment-requires : goal.apply_selector-evaluate_segment-requires
apply_selector-evaluate_segment-requires t c =
    let w = rest_in c.requires.asked c.requires.ask_selector in
    (omega (arith, w.0), (c.requires.asked, found_asked c.requires.asked c.requires.ask_selector c.select_one-found.ensures _ c.in-Some.is))

-- apply_selector
pub apply_selector-returns-then-k-le-INDEX : goal.apply_selector-returns-then-k-le-INDEX
apply_selector-returns-then-k-le-INDEX t c = record { steady = c.evaluate_segment.ensures.steady; done_selector = selector_found c.requires.asked c.requires.ask_selector c.select_one-found.ensures _ c.in-Some.is c.evaluate_segment.ensures.done_segment }

-- apply_selector
pub apply_selector-each_place-requires : goal.apply_selector-each_place-requires
apply_selector-each_place-requires t c =
    let w = rest_in c.requires.asked c.requires.ask_selector in
    (omega (arith, w.0), (c.requires.asked, (c.requires.ask_selector, c.if-k-eq-SLICE.true)))

-- apply_selector
pub apply_selector-returns-then-k-eq-SLICE : goal.apply_selector-returns-then-k-eq-SLICE
apply_selector-returns-then-k-eq-SLICE t c = record { steady = c.each_place.ensures.steady; done_selector = c.each_place.ensures.done_selector }

-- apply_selector
pub apply_selector-first_child-i-requires : goal.apply_selector-first_child-i-requires
apply_selector-first_child-i-requires t c = c.requires.ask_selector.node_in

-- apply_selector
pub apply_selector-child_count-n-requires : goal.apply_selector-child_count-n-requires
apply_selector-child_count-n-requires t c = c.requires.ask_selector.node_in

-- apply_selector
pub apply_selector-overflow_add-i : goal.apply_selector-overflow_add-i
apply_selector-overflow_add-i t c = omega (arith, c.first_child-i.type_inv, c.child_count-n.type_inv)

-- apply_selector
pub apply_selector-each_child-requires : goal.apply_selector-each_child-requires
apply_selector-each_child-requires t c =
    let w = rest_in c.requires.asked c.requires.ask_selector in
    let g = range_of_lem _ _ c.requires.asked.given.tab _ c.requires.ask_selector.node_in _ _ c.first_child-i.ensures c.child_count-n.ensures in
    (omega (arith, w.0), (c.requires.asked, each_asked c.requires.asked c.requires.ask_selector g))

-- apply_selector
pub apply_selector-returns-then-k-eq-WILDCARD : goal.apply_selector-returns-then-k-eq-WILDCARD
apply_selector-returns-then-k-eq-WILDCARD t c =
    let g = range_of_lem _ _ c.requires.asked.given.tab _ c.requires.ask_selector.node_in _ _ c.first_child-i.ensures c.child_count-n.ensures in
    record { steady = c.each_child.ensures.steady; done_selector = wildcard_done c.requires.asked c.requires.ask_selector g c.if-k-eq-WILDCARD.true c.each_child.ensures.done_each }

-- apply_selector
pub apply_selector-keep_children-requires : goal.apply_selector-keep_children-requires
apply_selector-keep_children-requires t c = record { asked = c.requires.asked; ask_selector = c.requires.ask_selector; ask_kind = kind_filter c.requires.asked c.requires.ask_selector c.if-k-le-INDEX.false c.if-k-eq-SLICE.false c.if-k-eq-WILDCARD.false }

-- apply_selector
pub apply_selector-eval_filter-requires : goal.apply_selector-eval_filter-requires
apply_selector-eval_filter-requires t c = (omega arith, (asked_later c.keep_children.ensures.steady c.requires.asked (kept_room c.requires.asked c.keep_children.ensures.done_keep (not-true _ (ap not c.if-not-keep_children.true))), (c.requires.ask_selector, kind_filter c.requires.asked c.requires.ask_selector c.if-k-le-INDEX.false c.if-k-eq-SLICE.false c.if-k-eq-WILDCARD.false)))

-- apply_selector
pub apply_selector-returns-then-not-keep_children : goal.apply_selector-returns-then-not-keep_children
apply_selector-returns-then-not-keep_children t c = record { steady = steady_then c.keep_children.ensures.steady c.eval_filter.ensures.steady; done_selector = kept_after c.keep_children.ensures.done_keep (not-true _ (ap not c.if-not-keep_children.true)) c.eval_filter.ensures.done_selector }

-- apply_selector
pub apply_selector-returns-else-not-keep_children : goal.apply_selector-returns-else-not-keep_children
apply_selector-returns-else-not-keep_children t c = record { steady = c.keep_children.ensures.steady; done_selector = c.keep_children.ensures.done_keep.done (not-false _ (ap not c.if-not-keep_children.false)) }

-- apply_selectors
pub apply_selectors-overflow_add-pc : goal.apply_selectors-overflow_add-pc
apply_selectors-overflow_add-pc t c = omega (arith, parts_bound c.args.list.now c.requires.asked c.requires.ask_selectors, c.requires.asked.given.few_p)

-- apply_selectors
pub apply_selectors-word16-m-requires : goal.apply_selectors-word16-m-requires
apply_selectors-word16-m-requires t c = omega (arith, parts_bound c.args.list.now c.requires.asked c.requires.ask_selectors)

-- apply_selectors
pub apply_selectors-overflow_add-p : goal.apply_selectors-overflow_add-p
apply_selectors-overflow_add-p t c = omega (arith, parts_bound c.args.list.now c.requires.asked c.requires.ask_selectors, c.requires.asked.given.few_p)

-- apply_selectors
pub apply_selectors-skip_selectors-rest-requires : goal.apply_selectors-skip_selectors-rest-requires
apply_selectors-skip_selectors-rest-requires t c = parts_skip c.args.list.now c.requires.asked c.requires.ask_selectors c.word16-m.ensures

-- apply_selectors
pub apply_selectors-loop-m-init : goal.apply_selectors-loop-m-init
apply_selectors-loop-m-init t c = selectors_start _ c.requires.asked c.requires.ask_selectors _ _ c.word16-m.ensures c.skip_selectors-rest.ensures

-- apply_selectors
pub apply_selectors-apply_selector-requires : goal.apply_selectors-apply_selector-requires
apply_selectors-apply_selector-requires t c =
    let w = selectors_in _ c.requires.asked c.requires.ask_selectors c.loop-m.invariant in
    (omega (arith, c.loop-m.invariant.later, w.0, w.1), (going_asked c.loop-m.invariant.going c.requires.asked, selectors_asked _ c.requires.asked c.requires.ask_selectors c.loop-m.invariant))

-- apply_selectors
pub apply_selectors-returns-then-state : goal.apply_selectors-returns-then-state
apply_selectors-returns-then-state t c =
    let a = going_asked c.loop-m.invariant.going c.requires.asked in
    let b = selector_room a (selectors_asked _ c.requires.asked c.requires.ask_selectors c.loop-m.invariant) c.apply_selector.ensures.done_selector in
    record { steady = steady_then c.loop-m.invariant.going.kept c.apply_selector.ensures.steady; done_selectors = selectors_passed _ c.requires.asked c.requires.ask_selectors c.loop-m.invariant c.loop-m-test.true c.apply_selector.ensures.steady b c.apply_selector.ensures.done_selector c.if-state.true }

-- apply_selectors
pub apply_selectors-next_selector-p-requires : goal.apply_selectors-next_selector-p-requires
apply_selectors-next_selector-p-requires t c = selectors_next _ c.requires.asked c.requires.ask_selectors c.loop-m.invariant

-- apply_selectors
pub apply_selectors-overflow_sub-m : goal.apply_selectors-overflow_sub-m
apply_selectors-overflow_sub-m t c = omega (arith, c.loop-m-test.true)

-- apply_selectors
pub apply_selectors-loop-m-smaller : goal.apply_selectors-loop-m-smaller
apply_selectors-loop-m-smaller t c = omega (arith, c.loop-m-test.true)

-- apply_selectors
pub apply_selectors-loop-m-preserved : goal.apply_selectors-loop-m-preserved
apply_selectors-loop-m-preserved t c =
    let a = going_asked c.loop-m.invariant.going c.requires.asked in
    let b = selector_room a (selectors_asked _ c.requires.asked c.requires.ask_selectors c.loop-m.invariant) c.apply_selector.ensures.done_selector in
    selectors_again _ c.requires.asked c.requires.ask_selectors c.loop-m.invariant c.loop-m-test.true c.apply_selector.ensures.steady b c.apply_selector.ensures.done_selector _ c.next_selector-p.ensures

-- apply_selectors
pub apply_selectors-apply_selector-requires-2 : goal.apply_selectors-apply_selector-requires-2
apply_selectors-apply_selector-requires-2 t c =
    let w = selectors_in _ c.requires.asked c.requires.ask_selectors c.loop-m.invariant in
    (omega (arith, c.loop-m.invariant.later, w.0, w.1), (going_asked c.loop-m.invariant.going c.requires.asked, selectors_asked _ c.requires.asked c.requires.ask_selectors c.loop-m.invariant))

-- apply_selectors
pub apply_selectors-returns : goal.apply_selectors-returns
apply_selectors-returns t c = record { steady = steady_then c.loop-m.invariant.going.kept c.apply_selector-2.ensures.steady; done_selectors = selectors_done _ c.requires.asked c.requires.ask_selectors c.loop-m.invariant c.loop-m-test.false c.apply_selector-2.ensures.done_selector }

-- descend_flats
pub descend_flats-apply_selectors-requires : goal.descend_flats-apply_selectors-requires
descend_flats-apply_selectors-requires t c = (omega arith, (c.requires.asked, descent_selectors c.requires.ask_descent))

-- descend_flats
pub descend_flats-first_child-first-requires : goal.descend_flats-first_child-first-requires
descend_flats-first_child-first-requires t c = c.requires.ask_descent.node_in

-- descend_flats
pub descend_flats-child_count-count-requires : goal.descend_flats-child_count-count-requires
descend_flats-child_count-count-requires t c = c.requires.ask_descent.node_in

-- descend_flats
pub descend_flats-overflow_add-e : goal.descend_flats-overflow_add-e
descend_flats-overflow_add-e t c = omega (arith, c.first_child-first.type_inv, c.child_count-count.type_inv)

-- descend_flats
pub descend_flats-skip_flats-j-requires : goal.descend_flats-skip_flats-j-requires
descend_flats-skip_flats-j-requires t c =
    let g = range_of_lem _ _ c.requires.asked.given.tab _ c.requires.ask_descent.node_in _ _ c.first_child-first.ensures c.child_count-count.ensures in
    record { asked = asked_later c.apply_selectors.ensures.steady c.requires.asked (selectors_room c.requires.asked (descent_selectors c.requires.ask_descent) c.apply_selectors.ensures.done_selectors); ask_flats = record { upto = omega arith; range = λ h. range_in _ _ c.requires.asked.given.tab _ c.requires.ask_descent.node_in _ _ g (omega arith); descends = c.requires.ask_descent.descends } }

-- descend_flats
pub descend_flats-loop-j-init : goal.descend_flats-loop-j-init
descend_flats-loop-j-init t c =
    let a = asked_later c.apply_selectors.ensures.steady c.requires.asked (selectors_room c.requires.asked (descent_selectors c.requires.ask_descent) c.apply_selectors.ensures.done_selectors) in
    record { low = omega arith; high = c.skip_flats-j.ensures.done_flats.high; going = going_start _ _ _ (asked_later c.skip_flats-j.ensures.steady a c.skip_flats-j.ensures.done_flats.room) }

-- descend_flats
pub descend_flats-descend_flats-requires : goal.descend_flats-descend_flats-requires
descend_flats-descend_flats-requires t c =
    let a = asked_later c.apply_selectors.ensures.steady c.requires.asked (selectors_room c.requires.asked (descent_selectors c.requires.ask_descent) c.apply_selectors.ensures.done_selectors) in
    let g = range_of_lem _ _ c.requires.asked.given.tab _ c.requires.ask_descent.node_in _ _ c.first_child-first.ensures c.child_count-count.ensures in
    let h = child_of c.requires.asked.given.tab c.requires.ask_descent.node_in g c.skip_flats-j.ensures.done_flats.low c.loop-j.invariant.low c.loop-j-test.true in
    (omega (arith, h.1, c.requires.asked.given.tab.depths _ h.0), (going_asked c.loop-j.invariant.going (asked_later c.skip_flats-j.ensures.steady a c.skip_flats-j.ensures.done_flats.room), record { node_in = h.0; descends = c.requires.ask_descent.descends }))

-- descend_flats
pub descend_flats-overflow_add-j : goal.descend_flats-overflow_add-j
descend_flats-overflow_add-j t c = omega (arith, c.loop-j-test.true, c.first_child-first.type_inv, c.child_count-count.type_inv)

-- descend_flats
pub descend_flats-skip_flats-j-requires-in-loop-j : goal.descend_flats-skip_flats-j-requires-in-loop-j
descend_flats-skip_flats-j-requires-in-loop-j t c =
    let a = asked_later c.apply_selectors.ensures.steady c.requires.asked (selectors_room c.requires.asked (descent_selectors c.requires.ask_descent) c.apply_selectors.ensures.done_selectors) in
    let g = range_of_lem _ _ c.requires.asked.given.tab _ c.requires.ask_descent.node_in _ _ c.first_child-first.ensures c.child_count-count.ensures in
    let h = child_of c.requires.asked.given.tab c.requires.ask_descent.node_in g c.skip_flats-j.ensures.done_flats.low c.loop-j.invariant.low c.loop-j-test.true in
    let b = going_asked c.loop-j.invariant.going (asked_later c.skip_flats-j.ensures.steady a c.skip_flats-j.ensures.done_flats.room) in
    record { asked = asked_later c.descend_flats.ensures.steady b (descent_room b (record { node_in = h.0; descends = c.requires.ask_descent.descends }) c.descend_flats.ensures.done_descent); ask_flats = record { upto = omega (arith, c.loop-j-test.true); range = λ y. range_in _ _ c.requires.asked.given.tab _ c.requires.ask_descent.node_in _ _ g (omega (arith, c.skip_flats-j.ensures.done_flats.low, c.loop-j.invariant.low)); descends = c.requires.ask_descent.descends } }

-- descend_flats
pub descend_flats-loop-j-smaller : goal.descend_flats-loop-j-smaller
descend_flats-loop-j-smaller t c = omega (arith, c.skip_flats-j-in-loop-j.ensures.done_flats.low, c.loop-j-test.true)

-- descend_flats
pub descend_flats-loop-j-preserved : goal.descend_flats-loop-j-preserved
descend_flats-loop-j-preserved t c =
    let a = asked_later c.apply_selectors.ensures.steady c.requires.asked (selectors_room c.requires.asked (descent_selectors c.requires.ask_descent) c.apply_selectors.ensures.done_selectors) in
    let g = range_of_lem _ _ c.requires.asked.given.tab _ c.requires.ask_descent.node_in _ _ c.first_child-first.ensures c.child_count-count.ensures in
    let h = child_of c.requires.asked.given.tab c.requires.ask_descent.node_in g c.skip_flats-j.ensures.done_flats.low c.loop-j.invariant.low c.loop-j-test.true in
    let b = going_asked c.loop-j.invariant.going (asked_later c.skip_flats-j.ensures.steady a c.skip_flats-j.ensures.done_flats.room) in
    descent_again c.loop-j.invariant c.loop-j-test.true c.descend_flats.ensures.steady (descent_room b (record { node_in = h.0; descends = c.requires.ask_descent.descends }) c.descend_flats.ensures.done_descent) c.descend_flats.ensures.done_descent c.skip_flats-j-in-loop-j.ensures.steady c.skip_flats-j-in-loop-j.ensures.done_flats

-- descend_flats
pub descend_flats-returns : goal.descend_flats-returns
descend_flats-returns t c =
    let g = range_of_lem _ _ c.requires.asked.given.tab _ c.requires.ask_descent.node_in _ _ c.first_child-first.ensures c.child_count-count.ensures in
    record { steady = steady_then c.apply_selectors.ensures.steady (steady_then c.skip_flats-j.ensures.steady c.loop-j.invariant.going.kept); done_descent = descent_done c.requires.asked c.requires.ask_descent g _ _ c.apply_selectors.ensures.done_selectors c.apply_selectors.ensures.steady c.skip_flats-j.ensures.done_flats c.skip_flats-j.ensures.steady (descent_ended c.loop-j.invariant c.loop-j-test.false) }

-- each_child
pub each_child-returns-then-e-i : goal.each_child-returns-then-e-i
each_child-returns-then-e-i t c = record { steady = steady_refl _ _; done_each = each_none c.requires.asked c.if-e-i.true }

-- each_child
pub each_child-bounds-plan-rest : goal.each_child-bounds-plan-rest
each_child-bounds-plan-rest t c = segments_in _ _ _ c.requires.ask_each.query.k c.requires.ask_each.query.f c.requires.ask_each.query.at

-- each_child
pub each_child-push_each-next-requires : goal.each_child-push_each-next-requires
each_child-push_each-next-requires t c = numbers_asked c.requires.asked c.requires.ask_each c.if-e-i.false

-- each_child
pub each_child-returns-then-plan-rest-eq-END : goal.each_child-returns-then-plan-rest-eq-END
each_child-returns-then-plan-rest-eq-END t c = record { steady = steady_wrote _ _ _ _ c.push_each-next.auto.list refl; done_each = each_ended c.requires.asked c.requires.ask_each c.if-plan-rest-eq-END.true _ _ c.push_each-next.ensures }

-- each_child
pub each_child-word32-head-requires : goal.each_child-word32-head-requires
each_child-word32-head-requires t c = omega (arith, query_bound c.requires.asked.given.few_p c.requires.ask_each.query c.if-plan-rest-eq-END.false)

-- each_child
pub each_child-loop-j-init : goal.each_child-loop-j-init
each_child-loop-j-init t c = record { low = omega arith; going = going_start _ _ _ c.requires.asked }

-- each_child
pub each_child-returns-then-state : goal.each_child-returns-then-state
each_child-returns-then-state t c = record { steady = c.loop-j.invariant.going.kept; done_each = each_full c.loop-j.invariant c.requires.asked c.if-state.true }

-- each_child
pub each_child-first_child-first-requires : goal.each_child-first_child-first-requires
each_child-first_child-first-requires t c = omega (arith, c.loop-j-test.true, c.requires.ask_each.range c.if-e-i.false)

-- each_child
pub each_child-child_count-n-requires : goal.each_child-child_count-n-requires
each_child-child_count-n-requires t c = omega (arith, c.loop-j-test.true, c.requires.ask_each.range c.if-e-i.false)

-- each_child
pub each_child-overflow_add-first : goal.each_child-overflow_add-first
each_child-overflow_add-first t c = omega (arith, c.first_child-first.type_inv, c.child_count-n.type_inv)

-- each_child
pub each_child-overflow_add-rest : goal.each_child-overflow_add-rest
each_child-overflow_add-rest t c = omega (arith, query_bound c.requires.asked.given.few_p c.requires.ask_each.query c.if-plan-rest-eq-END.false, c.requires.asked.given.few_p)

-- each_child
pub each_child-each_child-requires : goal.each_child-each_child-requires
each_child-each_child-requires t c =
    let w = each_enters c.loop-j.invariant c.requires.asked c.requires.ask_each c.if-plan-rest-eq-END.false c.loop-j-test.true in
    let b : (k : ℕ) → get_or (plan_of c.args.lent.now) k 0 < 256 = λ k. (c.shared_slice_known-1.given k).fits in
    let h = enter_head w 8 b c.word32-head.ensures c.if-head-eq-WILDCARD_HEAD.true in
    let q = enter_selector w h (wildcard_ends w b c.word32-head.ensures c.if-head-eq-WILDCARD_HEAD.true) in
    let g = range_of_lem _ _ c.requires.asked.given.tab _ w.segment.node_in _ _ c.first_child-first.ensures c.child_count-n.ensures in
    (omega (arith, query_bound c.requires.asked.given.few_p c.requires.ask_each.query c.if-plan-rest-eq-END.false), (w.asked, each_asked w.asked q g))

-- each_child
pub each_child-loop-j-preserved-then-head-eq-WILDCARD_HEAD : goal.each_child-loop-j-preserved-then-head-eq-WILDCARD_HEAD
each_child-loop-j-preserved-then-head-eq-WILDCARD_HEAD t c =
    let w = each_enters c.loop-j.invariant c.requires.asked c.requires.ask_each c.if-plan-rest-eq-END.false c.loop-j-test.true in
    let b : (k : ℕ) → get_or (plan_of c.args.lent.now) k 0 < 256 = λ k. (c.shared_slice_known-1.given k).fits in
    let h = enter_head w 8 b c.word32-head.ensures c.if-head-eq-WILDCARD_HEAD.true in
    let q = enter_selector w h (wildcard_ends w b c.word32-head.ensures c.if-head-eq-WILDCARD_HEAD.true) in
    let g = range_of_lem _ _ c.requires.asked.given.tab _ w.segment.node_in _ _ c.first_child-first.ensures c.child_count-n.ensures in
    let t = enter_done w h (wildcard_ends w b c.word32-head.ensures c.if-head-eq-WILDCARD_HEAD.true) c.each_child.ensures.steady (wildcard_done w.asked q g h.kind_is c.each_child.ensures.done_each) in
    each_again c.loop-j.invariant c.loop-j-test.true c.each_child.ensures.steady (segment_room w.asked w.segment t.gives) t.gives

-- each_child
pub each_child-evaluate_segment-requires : goal.each_child-evaluate_segment-requires
each_child-evaluate_segment-requires t c =
    let w = each_enters c.loop-j.invariant c.requires.asked c.requires.ask_each c.if-plan-rest-eq-END.false c.loop-j-test.true in
    (omega arith, (w.asked, w.segment))

-- each_child
pub each_child-loop-j-preserved : goal.each_child-loop-j-preserved
each_child-loop-j-preserved t c =
    let w = each_enters c.loop-j.invariant c.requires.asked c.requires.ask_each c.if-plan-rest-eq-END.false c.loop-j-test.true in
    each_again c.loop-j.invariant c.loop-j-test.true c.evaluate_segment.ensures.steady (segment_room w.asked w.segment c.evaluate_segment.ensures.done_segment) c.evaluate_segment.ensures.done_segment

-- each_child
pub each_child-returns : goal.each_child-returns
each_child-returns t c = record { steady = c.loop-j.invariant.going.kept; done_each = each_end c.loop-j.invariant c.loop-j-test.false }

-- each_place
pub each_place-first_child-from-requires : goal.each_place-first_child-from-requires
each_place-first_child-from-requires t c = c.requires.ask_selector.node_in

-- each_place
pub each_place-slice_at-s-requires : goal.each_place-slice_at-s-requires
each_place-slice_at-s-requires t c = slice_walk c.requires.asked c.requires.ask_selector c.requires.ask_kind

-- each_place
pub each_place-placed-w-requires : goal.each_place-placed-w-requires
each_place-placed-w-requires t c = placed_asked c.requires.asked c.requires.ask_selector c.requires.ask_kind c.first_child-from.ensures c.slice_at-s.ensures

-- each_place
pub each_place-bounds-plan-rest : goal.each_place-bounds-plan-rest
each_place-bounds-plan-rest t c = (rest_in c.requires.asked c.requires.ask_selector).1

-- each_place
pub each_place-push_places-next-requires : goal.each_place-push_places-next-requires
each_place-push_places-next-requires t c = walked_asked c.requires.asked c.requires.ask_selector c.requires.ask_kind c.first_child-from.ensures c.slice_at-s.ensures c.placed-w.ensures

-- each_place
pub each_place-returns-then-plan-rest-eq-END : goal.each_place-returns-then-plan-rest-eq-END
each_place-returns-then-plan-rest-eq-END t c = record { steady = steady_wrote _ _ _ _ c.push_places-next.auto.list refl; done_selector = slice_ended c.requires.asked c.requires.ask_selector c.requires.ask_kind c.first_child-from.ensures c.slice_at-s.ensures c.placed-w.ensures c.if-plan-rest-eq-END.true _ _ c.push_places-next.ensures }

-- each_place
pub each_place-loop-w-init : goal.each_place-loop-w-init
each_place-loop-w-init t c = record { inside = placed_in c.requires.asked c.requires.ask_selector c.requires.ask_kind c.first_child-from.ensures c.slice_at-s.ensures c.placed-w.ensures; going = going_start _ _ _ c.requires.asked }

-- each_place
pub each_place-returns-then-state : goal.each_place-returns-then-state
each_place-returns-then-state t c = record { steady = c.loop-w.invariant.going.kept; done_selector = slice_done_all c.requires.asked c.requires.ask_selector c.requires.ask_kind c.first_child-from.ensures c.slice_at-s.ensures c.placed-w.ensures (places_full c.loop-w.invariant c.requires.asked c.if-state.true) }

-- each_place
pub each_place-evaluate_segment-requires : goal.each_place-evaluate_segment-requires
each_place-evaluate_segment-requires t c = (omega arith, (going_asked c.loop-w.invariant.going c.requires.asked, record { node_in = place_in c.loop-w.invariant c.loop-w-test.true; query = record { f = c.requires.ask_selector.selects.q; k = c.requires.ask_selector.selects.k'; at = c.requires.ask_selector.selects.stands.after } }))

-- each_place
pub each_place-further-w-requires : goal.each_place-further-w-requires
each_place-further-w-requires t c = (c.loop-w-test.true, place_near c.loop-w.invariant c.requires.asked.given.tab.size.few)

-- each_place
pub each_place-loop-w-smaller : goal.each_place-loop-w-smaller
each_place-loop-w-smaller t c = omega (arith, c.further-w.ensures.next.fewer)

-- each_place
pub each_place-loop-w-preserved : goal.each_place-loop-w-preserved
each_place-loop-w-preserved t c =
    let a = going_asked c.loop-w.invariant.going c.requires.asked in
    places_again c.loop-w.invariant c.evaluate_segment.ensures.steady (segment_room a (record { node_in = place_in c.loop-w.invariant c.loop-w-test.true; query = record { f = c.requires.ask_selector.selects.q; k = c.requires.ask_selector.selects.k'; at = c.requires.ask_selector.selects.stands.after } }) c.evaluate_segment.ensures.done_segment) c.evaluate_segment.ensures.done_segment c.further-w.ensures

-- each_place
pub each_place-returns : goal.each_place-returns
each_place-returns t c = record { steady = c.loop-w.invariant.going.kept; done_selector = slice_done_all c.requires.asked c.requires.ask_selector c.requires.ask_kind c.first_child-from.ensures c.slice_at-s.ensures c.placed-w.ensures (places_end c.loop-w.invariant c.loop-w-test.false) }

-- eval_filter
pub eval_filter-overflow_add-z : goal.eval_filter-overflow_add-z
eval_filter-overflow_add-z t c = omega (arith, filter_bound c.requires.asked c.requires.ask_selector c.requires.ask_kind, c.requires.asked.given.few_p)

-- eval_filter
pub eval_filter-overflow_add-p : goal.eval_filter-overflow_add-p
eval_filter-overflow_add-p t c = omega (arith, filter_bound c.requires.asked c.requires.ask_selector c.requires.ask_kind, c.requires.asked.given.few_p)

-- eval_filter
pub eval_filter-word16-requires : goal.eval_filter-word16-requires
eval_filter-word16-requires t c = omega (arith, filter_bound c.requires.asked c.requires.ask_selector c.requires.ask_kind, c.requires.asked.given.few_p)

-- eval_filter
pub eval_filter-overflow_add-z-2 : goal.eval_filter-overflow_add-z-2
eval_filter-overflow_add-z-2 t c = omega (arith, filter_inside c.requires.asked c.requires.ask_selector c.requires.ask_kind c.word16.ensures, (rest_in c.requires.asked c.requires.ask_selector).1, c.requires.asked.given.few_p)

-- eval_filter
pub eval_filter-first_child-i-requires : goal.eval_filter-first_child-i-requires
eval_filter-first_child-i-requires t c = c.requires.ask_selector.node_in

-- eval_filter
pub eval_filter-child_count-n-requires : goal.eval_filter-child_count-n-requires
eval_filter-child_count-n-requires t c = c.requires.ask_selector.node_in

-- eval_filter
pub eval_filter-overflow_add-e : goal.eval_filter-overflow_add-e
eval_filter-overflow_add-e t c = omega (arith, c.first_child-i.type_inv, c.child_count-n.type_inv)

-- eval_filter
pub eval_filter-overflow_add-p-2 : goal.eval_filter-overflow_add-p-2
eval_filter-overflow_add-p-2 t c = omega (arith, filter_bound c.requires.asked c.requires.ask_selector c.requires.ask_kind, c.requires.asked.given.few_p)

-- eval_filter
pub eval_filter-keep_joined-k-requires : goal.eval_filter-keep_joined-k-requires
eval_filter-keep_joined-k-requires t c = record { asked = c.requires.asked; ask_rows = record { near = omega (arith, c.first_child-i.type_inv); range = kept_in_table c.requires.asked c.requires.ask_selector c.requires.ask_kind c.word16.ensures c.first_child-i.ensures c.child_count-n.ensures; test = test_asked c.requires.asked c.requires.ask_selector c.requires.ask_kind c.word16.ensures; query = rest_asked c.requires.asked c.requires.ask_selector c.requires.ask_kind c.word16.ensures } }

-- eval_filter
pub eval_filter-overflow_add-p-3 : goal.eval_filter-overflow_add-p-3
eval_filter-overflow_add-p-3 t c = omega (arith, filter_bound c.requires.asked c.requires.ask_selector c.requires.ask_kind, c.requires.asked.given.few_p)

-- eval_filter
pub eval_filter-next_kept-v-requires : goal.eval_filter-next_kept-v-requires
eval_filter-next_kept-v-requires t c = (omega (arith, c.decreases), rows_next (c.keep_joined-k.ensures.steady, c.keep_joined-k.ensures.done_rows) (next_asked c.requires.asked c.requires.ask_selector c.requires.ask_kind c.word16.ensures c.first_child-i.ensures c.child_count-n.ensures _ (omega arith)))

-- eval_filter
pub eval_filter-loop-v-init : goal.eval_filter-loop-v-init
eval_filter-loop-v-init t c = filter_start _ _ _ (rows_given (c.keep_joined-k.ensures.steady, c.keep_joined-k.ensures.done_rows) c.requires.asked) (c.keep_joined-k.ensures.done_rows.high (omega arith)) c.next_kept-v.ensures

-- eval_filter
pub eval_filter-overflow_add-p-then-v : goal.eval_filter-overflow_add-p-then-v
eval_filter-overflow_add-p-then-v t c = omega (arith, filter_bound c.requires.asked c.requires.ask_selector c.requires.ask_kind, c.requires.asked.given.few_p)

-- eval_filter
pub eval_filter-keep-requires : goal.eval_filter-keep-requires
eval_filter-keep-requires t c = let t = kept_in_table c.requires.asked c.requires.ask_selector c.requires.ask_kind c.word16.ensures c.first_child-i.ensures c.child_count-n.ensures (omega (arith, c.loop-v.invariant.low, c.keep_joined-k.ensures.done_rows.low, c.loop-v-test.true)) in (omega (arith, c.decreases), (going_asked c.loop-v.invariant.going (rows_given (c.keep_joined-k.ensures.steady, c.keep_joined-k.ensures.done_rows) c.requires.asked), (record { near = omega (arith, c.requires.asked.given.tab.size.few, c.loop-v-test.true); range = λ h. t; test = test_asked c.requires.asked c.requires.ask_selector c.requires.ask_kind c.word16.ensures; query = (rest_asked c.requires.asked c.requires.ask_selector c.requires.ask_kind c.word16.ensures) }, (omega (arith, filter_inside c.requires.asked c.requires.ask_selector c.requires.ask_kind c.word16.ensures), c.loop-v-test.true))))

-- eval_filter
pub eval_filter-returns-then-v : goal.eval_filter-returns-then-v
eval_filter-returns-then-v t c = record { steady = steady_then c.keep_joined-k.ensures.steady (steady_then c.loop-v.invariant.going.kept c.keep.ensures.steady); done_selector = filter_done c.requires.asked c.requires.ask_selector c.requires.ask_kind c.word16.ensures c.first_child-i.ensures c.child_count-n.ensures (rows_then (c.keep_joined-k.ensures.steady, c.keep_joined-k.ensures.done_rows) (filter_left c.loop-v.invariant c.keep.ensures.done_kept)) }

-- eval_filter
pub eval_filter-evaluate_segment-requires : goal.eval_filter-evaluate_segment-requires
eval_filter-evaluate_segment-requires t c = let t = kept_in_table c.requires.asked c.requires.ask_selector c.requires.ask_kind c.word16.ensures c.first_child-i.ensures c.child_count-n.ensures (omega (arith, c.loop-v.invariant.low, c.keep_joined-k.ensures.done_rows.low, c.loop-v-test.true)) in let w = rest_in c.requires.asked c.requires.ask_selector in (omega (arith, w.0, c.decreases), (going_asked c.loop-v.invariant.going (rows_given (c.keep_joined-k.ensures.steady, c.keep_joined-k.ensures.done_rows) c.requires.asked), record { node_in = omega (arith, c.loop-v-test.true); query = (rest_asked c.requires.asked c.requires.ask_selector c.requires.ask_kind c.word16.ensures) }))

-- eval_filter
pub eval_filter-returns-then-state : goal.eval_filter-returns-then-state
eval_filter-returns-then-state t c = let t = kept_in_table c.requires.asked c.requires.ask_selector c.requires.ask_kind c.word16.ensures c.first_child-i.ensures c.child_count-n.ensures (omega (arith, c.loop-v.invariant.low, c.keep_joined-k.ensures.done_rows.low, c.loop-v-test.true)) in let b = segment_room (going_asked c.loop-v.invariant.going (rows_given (c.keep_joined-k.ensures.steady, c.keep_joined-k.ensures.done_rows) c.requires.asked)) (record { node_in = omega (arith, c.loop-v-test.true); query = (rest_asked c.requires.asked c.requires.ask_selector c.requires.ask_kind c.word16.ensures) }) c.evaluate_segment.ensures.done_segment in record { steady = steady_then c.keep_joined-k.ensures.steady (steady_then c.loop-v.invariant.going.kept c.evaluate_segment.ensures.steady); done_selector = filter_done c.requires.asked c.requires.ask_selector c.requires.ask_kind c.word16.ensures c.first_child-i.ensures c.child_count-n.ensures (rows_then (c.keep_joined-k.ensures.steady, c.keep_joined-k.ensures.done_rows) (filter_full c.loop-v.invariant c.if-v.false c.loop-v-test.true c.evaluate_segment.ensures.steady b c.evaluate_segment.ensures.done_segment (rows_given (c.keep_joined-k.ensures.steady, c.keep_joined-k.ensures.done_rows) c.requires.asked) c.if-state.true)) }

-- eval_filter
pub eval_filter-overflow_add-v : goal.eval_filter-overflow_add-v
eval_filter-overflow_add-v t c = omega (arith, c.loop-v-test.true, c.first_child-i.type_inv, c.child_count-n.type_inv)

-- eval_filter
pub eval_filter-loop-v-smaller-then-v-2 : goal.eval_filter-loop-v-smaller-then-v-2
eval_filter-loop-v-smaller-then-v-2 t c = omega (arith, c.loop-v-test.true)

-- eval_filter
pub eval_filter-loop-v-preserved-then-v-2 : goal.eval_filter-loop-v-preserved-then-v-2
eval_filter-loop-v-preserved-then-v-2 t c = let t = kept_in_table c.requires.asked c.requires.ask_selector c.requires.ask_kind c.word16.ensures c.first_child-i.ensures c.child_count-n.ensures (omega (arith, c.loop-v.invariant.low, c.keep_joined-k.ensures.done_rows.low, c.loop-v-test.true)) in let b = segment_room (going_asked c.loop-v.invariant.going (rows_given (c.keep_joined-k.ensures.steady, c.keep_joined-k.ensures.done_rows) c.requires.asked)) (record { node_in = omega (arith, c.loop-v-test.true); query = (rest_asked c.requires.asked c.requires.ask_selector c.requires.ask_kind c.word16.ensures) }) c.evaluate_segment.ensures.done_segment in filter_again c.loop-v.invariant c.if-v.false c.loop-v-test.true c.evaluate_segment.ensures.steady b c.evaluate_segment.ensures.done_segment (none_passed _)

-- eval_filter
pub eval_filter-overflow_add-j : goal.eval_filter-overflow_add-j
eval_filter-overflow_add-j t c = omega (arith, c.loop-v-test.true, c.first_child-i.type_inv, c.child_count-n.type_inv)

-- eval_filter
pub eval_filter-overflow_add-p-else-v-2 : goal.eval_filter-overflow_add-p-else-v-2
eval_filter-overflow_add-p-else-v-2 t c = omega (arith, filter_bound c.requires.asked c.requires.ask_selector c.requires.ask_kind, c.requires.asked.given.few_p)

-- eval_filter
pub eval_filter-next_kept-v-requires-else-v-2 : goal.eval_filter-next_kept-v-requires-else-v-2
eval_filter-next_kept-v-requires-else-v-2 t c = (omega (arith, c.decreases), next_later (steady_then c.keep_joined-k.ensures.steady (steady_then c.loop-v.invariant.going.kept c.evaluate_segment.ensures.steady)) (next_asked c.requires.asked c.requires.ask_selector c.requires.ask_kind c.word16.ensures c.first_child-i.ensures c.child_count-n.ensures _ (omega (arith, c.loop-v.invariant.low, c.keep_joined-k.ensures.done_rows.low))))

-- eval_filter
pub eval_filter-loop-v-smaller : goal.eval_filter-loop-v-smaller
eval_filter-loop-v-smaller t c = omega (arith, c.next_kept-v-else-v-2.ensures.low, c.loop-v-test.true)

-- eval_filter
pub eval_filter-loop-v-preserved : goal.eval_filter-loop-v-preserved
eval_filter-loop-v-preserved t c = let t = kept_in_table c.requires.asked c.requires.ask_selector c.requires.ask_kind c.word16.ensures c.first_child-i.ensures c.child_count-n.ensures (omega (arith, c.loop-v.invariant.low, c.keep_joined-k.ensures.done_rows.low, c.loop-v-test.true)) in let b = segment_room (going_asked c.loop-v.invariant.going (rows_given (c.keep_joined-k.ensures.steady, c.keep_joined-k.ensures.done_rows) c.requires.asked)) (record { node_in = omega (arith, c.loop-v-test.true); query = (rest_asked c.requires.asked c.requires.ask_selector c.requires.ask_kind c.word16.ensures) }) c.evaluate_segment.ensures.done_segment in filter_again c.loop-v.invariant c.if-v.false c.loop-v-test.true c.evaluate_segment.ensures.steady b c.evaluate_segment.ensures.done_segment c.next_kept-v-else-v-2.ensures

-- eval_filter
pub eval_filter-returns : goal.eval_filter-returns
eval_filter-returns t c = record { steady = steady_then c.keep_joined-k.ensures.steady c.loop-v.invariant.going.kept; done_selector = filter_done c.requires.asked c.requires.ask_selector c.requires.ask_kind c.word16.ensures c.first_child-i.ensures c.child_count-n.ensures (rows_then (c.keep_joined-k.ensures.steady, c.keep_joined-k.ensures.done_rows) (filter_end_all c.loop-v.invariant c.loop-v-test.false)) }

-- eval_filter_expr
pub eval_filter_expr-loop-q-init : goal.eval_filter_expr-loop-q-init
eval_filter_expr-loop-q-init t c = record { later = omega arith; again = λ want l. l }

-- eval_filter_expr
pub eval_filter_expr-plain_turn-t-requires : goal.eval_filter_expr-plain_turn-t-requires
eval_filter_expr-plain_turn-t-requires t c = turn_here c.loop-q.invariant c.requires.ask_rest c.requires.within c.loop-q-test.true

-- eval_filter_expr
pub eval_filter_expr-loop-q-smaller-then-t : goal.eval_filter_expr-loop-q-smaller-then-t
eval_filter_expr-loop-q-smaller-then-t t c = omega (arith, c.plain_turn-t.ensures.further c.if-t.true, c.loop-q-test.true)

-- eval_filter_expr
pub eval_filter_expr-loop-q-preserved-then-t : goal.eval_filter_expr-loop-q-preserved-then-t
eval_filter_expr-loop-q-preserved-then-t t c = record { later = omega (arith, c.loop-q.invariant.later, c.plain_turn-t.ensures.further c.if-t.true); again = λ want l. c.plain_turn-t.ensures.goes c.if-t.true want (c.loop-q.invariant.again want l) }

-- eval_filter_expr
pub eval_filter_expr-is_call-requires : goal.eval_filter_expr-is_call-requires
eval_filter_expr-is_call-requires t c = turn_left (turn_here c.loop-q.invariant c.requires.ask_rest c.requires.within c.loop-q-test.true)

-- eval_filter_expr
pub eval_filter_expr-returns-then-is_call : goal.eval_filter_expr-returns-then-is_call
eval_filter_expr-returns-then-is_call t c = said_met c.loop-q.invariant c.if-stop.true c.loop-q-test.true

-- eval_filter_expr
pub eval_filter_expr-eval_test-r-requires : goal.eval_filter_expr-eval_test-r-requires
eval_filter_expr-eval_test-r-requires t c = (omega (arith, c.loop-q.invariant.later, c.decreases), (c.requires.within, turn_here c.loop-q.invariant c.requires.ask_rest c.requires.within c.loop-q-test.true))

-- eval_filter_expr
pub eval_filter_expr-loop-q-smaller : goal.eval_filter_expr-loop-q-smaller
eval_filter_expr-loop-q-smaller t c = omega (arith, c.eval_test-r.ensures.further, c.loop-q-test.true)

-- eval_filter_expr
pub eval_filter_expr-loop-q-preserved : goal.eval_filter_expr-loop-q-preserved
eval_filter_expr-loop-q-preserved t c = record { later = omega (arith, c.loop-q.invariant.later, c.eval_test-r.ensures.further); again = λ want l. c.eval_test-r.ensures.goes want (c.loop-q.invariant.again want l) }

-- eval_filter_expr
pub eval_filter_expr-returns : goal.eval_filter_expr-returns
eval_filter_expr-returns t c = said_told c.loop-q.invariant c.loop-q-test.false

-- eval_query
pub eval_query-bounds-plan-q : goal.eval_query-bounds-plan-q
eval_query-bounds-plan-q t c = (here c.requires.ask_query).inside

-- eval_query
pub eval_query-overflow_add-q : goal.eval_query-overflow_add-q
eval_query-overflow_add-q t c = omega (arith, (here c.requires.ask_query).inside, c.requires.within.few_p)

-- eval_query
pub eval_query-reach-r-requires : goal.eval_query-reach-r-requires
eval_query-reach-r-requires t c =
    let h = here c.requires.ask_query in
    record { given = record { few_p = c.requires.within.few_p; few_l = c.requires.within.few_l; tab = c.requires.within.tab }; node_in = begins_in _ (get_or (plan_of c.args.lent.now) c.args.s.q 0) _ _ _ c.begins-from.ensures c.requires.within.root_in c.requires.within.node_in; query = record { f = h.f; k = h.k; at = h.at } }

-- eval_query
pub eval_query-past_query-z-requires : goal.eval_query-past_query-z-requires
eval_query-past_query-z-requires t c =
    let h = here c.requires.ask_query in
    let y = c.reach-r.ensures.front h.f h.k h.at in
    record { few = c.requires.within.few_p; f = y.g; k = y.j; holds = y.at.holds }

-- eval_query
pub eval_query-bounds-plan-z : goal.eval_query-bounds-plan-z
eval_query-bounds-plan-z t c =
    let i = begins_in _ (get_or (plan_of c.args.lent.now) c.args.s.q 0) _ _ _ c.begins-from.ensures c.requires.within.root_in c.requires.within.node_in in
    ((here c.requires.ask_query).ends _ (past_of _ _ _ _ c.requires.within.tab _ _ i _ c.reach-r.ensures _ c.past_query-z.ensures)).1

-- eval_query
pub eval_query-to_registers-requires : goal.eval_query-to_registers-requires
eval_query-to_registers-requires t c =
    let i = begins_in _ (get_or (plan_of c.args.lent.now) c.args.s.q 0) _ _ _ c.begins-from.ensures c.requires.within.root_in c.requires.within.node_in in
    let e = (here c.requires.ask_query).ends _ (past_of _ _ _ _ c.requires.within.tab _ _ i _ c.reach-r.ensures _ c.past_query-z.ensures) in
    record { nodes = record { tab = c.requires.within.tab; inside = λ v. absurd (omega arith); few = omega arith }; place = e.0; small = omega (arith, e.1, c.requires.within.few_p) }

-- eval_query
pub eval_query-returns-in_default : goal.eval_query-returns-in_default
eval_query-returns-in_default t c =
    let i = begins_in _ (get_or (plan_of c.args.lent.now) c.args.s.q 0) _ _ _ c.begins-from.ensures c.requires.within.root_in c.requires.within.node_in in
    query_done _ _ _ _ _ _ _ _ c.begins-from.ensures c.requires.ask_query _ _ _ _ _ (past_of _ _ _ _ c.requires.within.tab _ _ i _ c.reach-r.ensures _ c.past_query-z.ensures) refl c.to_registers.ensures (found_lost _ _ _ _ c.requires.within.tab _ _ i _ c.reach-r.ensures c.in_default.is (get_or (plan_of c.args.lent.now) c.past_query-z.result 0))

-- eval_query
pub eval_query-bounds-plan-pc : goal.eval_query-bounds-plan-pc
eval_query-bounds-plan-pc t c =
    let h = here c.requires.ask_query in
    let y = c.reach-r.ensures.front h.f h.k h.at in
    segments_in _ _ _ _ _ y.at

-- eval_query
pub eval_query-to_registers-requires-then-plan-pc-eq-END : goal.eval_query-to_registers-requires-then-plan-pc-eq-END
eval_query-to_registers-requires-then-plan-pc-eq-END t c =
    let i = begins_in _ (get_or (plan_of c.args.lent.now) c.args.s.q 0) _ _ _ c.begins-from.ensures c.requires.within.root_in c.requires.within.node_in in
    let e = (here c.requires.ask_query).ends _ (past_of _ _ _ _ c.requires.within.tab _ _ i _ c.reach-r.ensures _ c.past_query-z.ensures) in
    record { nodes = record { tab = c.requires.within.tab; inside = λ v. leads_in c.reach-r.ensures c.in-Ok.is; few = omega arith }; place = e.0; small = omega (arith, e.1, c.requires.within.few_p) }

-- eval_query
pub eval_query-returns-then-plan-pc-eq-END : goal.eval_query-returns-then-plan-pc-eq-END
eval_query-returns-then-plan-pc-eq-END t c =
    let i = begins_in _ (get_or (plan_of c.args.lent.now) c.args.s.q 0) _ _ _ c.begins-from.ensures c.requires.within.root_in c.requires.within.node_in in
    query_done _ _ _ _ _ _ _ _ c.begins-from.ensures c.requires.ask_query _ _ _ _ _ (past_of _ _ _ _ c.requires.within.tab _ _ i _ c.reach-r.ensures _ c.past_query-z.ensures) refl c.to_registers-then-plan-pc-eq-END.ensures (found_one _ _ _ _ c.requires.within.tab _ _ i _ c.reach-r.ensures _ c.in-Ok.is c.if-plan-pc-eq-END.true (get_or (plan_of c.args.lent.now) c.past_query-z.result 0))

-- eval_query
pub eval_query-evaluate_segment-requires : goal.eval_query-evaluate_segment-requires
eval_query-evaluate_segment-requires t c =
    let h = here c.requires.ask_query in
    let y = c.reach-r.ensures.front h.f h.k h.at in
    let i = begins_in _ (get_or (plan_of c.args.lent.now) c.args.s.q 0) _ _ _ c.begins-from.ensures c.requires.within.root_in c.requires.within.node_in in
    let m = cap_small _ (get_or (plan_of c.args.lent.now) c.past_query-z.result 0) c.cap_of-cap.ensures in
    (omega (arith, h.inside, c.reach-r.ensures.later), (record { given = record { few_p = c.requires.within.few_p; few_l = c.requires.within.few_l; tab = c.requires.within.tab }; root_in = i; room = omega arith; wide = omega arith; small = omega arith }, record { node_in = leads_in c.reach-r.ensures c.in-Ok.is; query = record { f = y.g; k = y.j; at = y.at } }))

-- eval_query
pub eval_query-bounds-places-0 : goal.eval_query-bounds-places-0
eval_query-bounds-places-0 t c = omega (arith, c.evaluate_segment.ensures.steady.long)

-- eval_query
pub eval_query-overflow_cast-head : goal.eval_query-overflow_cast-head
eval_query-overflow_cast-head t c =
    let h = here c.requires.ask_query in
    let i = begins_in _ (get_or (plan_of c.args.lent.now) c.args.s.q 0) _ _ _ c.begins-from.ensures c.requires.within.root_in c.requires.within.node_in in
    let f = walk_found _ _ _ _ c.requires.within.tab _ _ i _ c.reach-r.ensures c.in-Ok.is _ _ _ (λ g j a. c.evaluate_segment.ensures.done_segment.emits (record { f = g; k = j; at = a }) _ _ refl refl) in
    let y = nested_head _ _ c.requires.within.tab _ _ i _ _ h.f (f h.f h.k h.at) in
    omega (arith, y, c.requires.within.tab.size.few)

-- eval_query
pub eval_query-to_registers-requires-2 : goal.eval_query-to_registers-requires-2
eval_query-to_registers-requires-2 t c =
    let h = here c.requires.ask_query in
    let i = begins_in _ (get_or (plan_of c.args.lent.now) c.args.s.q 0) _ _ _ c.begins-from.ensures c.requires.within.root_in c.requires.within.node_in in
    let e = h.ends _ (past_of _ _ _ _ c.requires.within.tab _ _ i _ c.reach-r.ensures _ c.past_query-z.ensures) in
    let w = walk_found _ _ _ _ c.requires.within.tab _ _ i _ c.reach-r.ensures c.in-Ok.is _ _ _ (λ g j a. c.evaluate_segment.ensures.done_segment.emits (record { f = g; k = j; at = a }) _ _ refl refl) in
    let f = nested_found _ _ _ _ c.requires.within.tab _ _ (get_or (plan_of c.args.lent.now) c.past_query-z.result 0) _ i c.cap_of-cap.ensures _ _ w in
    let y = f h.f h.k h.at in
    let n = y.number in
    let m = cap_small _ (get_or (plan_of c.args.lent.now) c.past_query-z.result 0) c.cap_of-cap.ensures in
    record { nodes = record { tab = c.requires.within.tab; inside = y.inside; few = omega (arith, c.cap_of-cap.ensures) }; place = e.0; small = omega (arith, e.1, c.requires.within.few_p) }

-- eval_query
pub eval_query-returns : goal.eval_query-returns
eval_query-returns t c =
    let i = begins_in _ (get_or (plan_of c.args.lent.now) c.args.s.q 0) _ _ _ c.begins-from.ensures c.requires.within.root_in c.requires.within.node_in in
    let w = walk_found _ _ _ _ c.requires.within.tab _ _ i _ c.reach-r.ensures c.in-Ok.is _ _ _ (λ g j a. c.evaluate_segment.ensures.done_segment.emits (record { f = g; k = j; at = a }) _ _ refl refl) in
    let f = nested_found _ _ _ _ c.requires.within.tab _ _ (get_or (plan_of c.args.lent.now) c.past_query-z.result 0) _ i c.cap_of-cap.ensures _ _ w in
    query_done _ _ _ _ _ _ _ _ c.begins-from.ensures c.requires.ask_query _ _ _ _ _ (past_of _ _ _ _ c.requires.within.tab _ _ i _ c.reach-r.ensures _ c.past_query-z.ensures) refl c.to_registers-2.ensures f

-- eval_test
pub eval_test-loop-s-init : goal.eval_test-loop-s-init
eval_test-loop-s-init t c = record { later = omega arith; pair = record { first = tt; second = tt }; again = λ want t. t }

-- eval_test
pub eval_test-returns-then-is_clear : goal.eval_test-returns-then-is_clear
eval_test-returns-then-is_clear t c = let d = c.is_clear.ensures c.if-is_clear.true in record { further = d.0; goes = λ want l. clear_left _ _ c.loop-s.s d.1 (c.loop-s.invariant.again want l) }

-- eval_test
pub eval_test-bounds-plan-q : goal.eval_test-bounds-plan-q
eval_test-bounds-plan-q t c = todo_in _ _ _ _ _ _ _ _ _ _ (c.loop-s.invariant.again c.requires.ask_turn.want c.requires.ask_turn.todo) c.loop-s-test.true

-- eval_test
pub eval_test-eval_query-s-requires : goal.eval_test-eval_query-s-requires
eval_test-eval_query-s-requires t c = let d = c.loop-s.invariant.again c.requires.ask_turn.want c.requires.ask_turn.todo in let b = todo_in _ _ _ _ _ _ _ _ _ _ d c.loop-s-test.true in (omega (arith, c.decreases), (c.requires.within, record { pair = c.loop-s.invariant.pair; e = c.args.e; want = _; todo = d; more = c.loop-s-test.true; kind = c.if-plan-q-le-CURRENT.true }))

-- eval_test
pub eval_test-loop-s-smaller-then-plan-q-le-CURRENT : goal.eval_test-loop-s-smaller-then-plan-q-le-CURRENT
eval_test-loop-s-smaller-then-plan-q-le-CURRENT t c = omega (arith, c.eval_query-s.ensures.further, c.loop-s-test.true)

-- eval_test
pub eval_test-loop-s-preserved-then-plan-q-le-CURRENT : goal.eval_test-loop-s-preserved-then-plan-q-le-CURRENT
eval_test-loop-s-preserved-then-plan-q-le-CURRENT t c = record { later = omega (arith, c.eval_query-s.ensures.further); pair = c.eval_query-s.ensures.pair; again = λ want h. c.eval_query-s.ensures.goes _ _ (c.loop-s.invariant.again want h) c.loop-s-test.true }

-- eval_test
pub eval_test-plain_expr-s-requires : goal.eval_test-plain_expr-s-requires
eval_test-plain_expr-s-requires t c = record { few_p = c.requires.within.few_p; few_l = c.requires.within.few_l; tab = c.requires.within.tab; pair = c.loop-s.invariant.pair; e = c.args.e; R = _; N = _; want = _; todo = c.loop-s.invariant.again c.requires.ask_turn.want c.requires.ask_turn.todo; more = c.loop-s-test.true; kind_low = c.if-plan-q-le-CURRENT.false; kind_high = omega (arith, c.type_inv.plan c.loop-s.s.q) }

-- eval_test
pub eval_test-loop-s-smaller : goal.eval_test-loop-s-smaller
eval_test-loop-s-smaller t c = omega (arith, c.plain_expr-s.ensures.further, c.loop-s-test.true)

-- eval_test
pub eval_test-loop-s-preserved : goal.eval_test-loop-s-preserved
eval_test-loop-s-preserved t c = record { later = omega (arith, c.plain_expr-s.ensures.further); pair = c.plain_expr-s.ensures.pair; again = λ want h. c.plain_expr-s.ensures.goes _ _ _ _ (c.loop-s.invariant.again want h) c.loop-s-test.true }

-- eval_test
pub eval_test-returns : goal.eval_test-returns
eval_test-returns t c = record { further = c.requires.ask_turn.more; goes = λ want l. left_ended c.loop-s-test.false (c.loop-s.invariant.again want l) }

-- evaluate_segment
pub evaluate_segment-reach-r-requires : goal.evaluate_segment-reach-r-requires
evaluate_segment-reach-r-requires t c = reach_asked c.requires.asked c.requires.ask_segment

-- evaluate_segment
pub evaluate_segment-returns-in_default : goal.evaluate_segment-returns-in_default
evaluate_segment-returns-in_default t c = record { steady = steady_refl _ _; done_segment = segment_lost c.requires.asked c.requires.ask_segment c.reach-r.ensures c.in_default.is }

-- evaluate_segment
pub evaluate_segment-bounds-plan-q : goal.evaluate_segment-bounds-plan-q
evaluate_segment-bounds-plan-q t c = reached_in c.requires.asked c.requires.ask_segment c.reach-r.ensures

-- evaluate_segment
pub evaluate_segment-push-next-requires : goal.evaluate_segment-push-next-requires
evaluate_segment-push-next-requires t c = push_found c.requires.asked c.requires.ask_segment c.reach-r.ensures c.in-Ok.is

-- evaluate_segment
pub evaluate_segment-returns-then-k-eq-END : goal.evaluate_segment-returns-then-k-eq-END
evaluate_segment-returns-then-k-eq-END t c = record { steady = steady_wrote _ _ _ _ c.push-next.auto.list refl; done_segment = segment_ends c.requires.asked c.requires.ask_segment c.reach-r.ensures c.in-Ok.is c.if-k-eq-END.true _ _ c.push-next.ensures }

-- evaluate_segment
pub evaluate_segment-apply_selectors-requires : goal.evaluate_segment-apply_selectors-requires
evaluate_segment-apply_selectors-requires t c = (omega (arith, c.reach-r.ensures.later), (c.requires.asked, selectors_found c.requires.asked c.requires.ask_segment c.reach-r.ensures c.in-Ok.is c.if-k-eq-END.false))

-- evaluate_segment
pub evaluate_segment-returns-then-k-eq-CHILD : goal.evaluate_segment-returns-then-k-eq-CHILD
evaluate_segment-returns-then-k-eq-CHILD t c = record { steady = c.apply_selectors.ensures.steady; done_segment = segment_child_done c.requires.asked c.requires.ask_segment c.reach-r.ensures c.in-Ok.is c.if-k-eq-END.false c.if-k-eq-CHILD.true _ _ c.apply_selectors.ensures.done_selectors }

-- evaluate_segment
pub evaluate_segment-has_flats-requires : goal.evaluate_segment-has_flats-requires
evaluate_segment-has_flats-requires t c =
    let d = descent_found c.requires.asked c.requires.ask_segment c.reach-r.ensures c.in-Ok.is c.if-k-eq-END.false c.if-k-eq-CHILD.false in
    record { given = c.requires.asked.given; descends = d.descends }

-- evaluate_segment
pub evaluate_segment-descend_flats-requires : goal.evaluate_segment-descend_flats-requires
evaluate_segment-descend_flats-requires t c =
    let d = descent_found c.requires.asked c.requires.ask_segment c.reach-r.ensures c.in-Ok.is c.if-k-eq-END.false c.if-k-eq-CHILD.false in
    (omega (arith, c.reach-r.ensures.later, c.requires.asked.given.tab.depths _ d.node_in), (c.requires.asked, d))

-- evaluate_segment
pub evaluate_segment-returns-then-has_flats : goal.evaluate_segment-returns-then-has_flats
evaluate_segment-returns-then-has_flats t c = record { steady = c.descend_flats.ensures.steady; done_segment = segment_descent_done c.requires.asked c.requires.ask_segment c.reach-r.ensures c.in-Ok.is c.if-k-eq-END.false c.if-k-eq-CHILD.false _ _ c.descend_flats.ensures.done_descent }

-- evaluate_segment
pub evaluate_segment-recursive_descent-requires : goal.evaluate_segment-recursive_descent-requires
evaluate_segment-recursive_descent-requires t c =
    let d = descent_found c.requires.asked c.requires.ask_segment c.reach-r.ensures c.in-Ok.is c.if-k-eq-END.false c.if-k-eq-CHILD.false in
    (omega (arith, c.reach-r.ensures.later, c.requires.asked.given.tab.depths _ d.node_in), (c.requires.asked, d))

-- evaluate_segment
pub evaluate_segment-returns : goal.evaluate_segment-returns
evaluate_segment-returns t c = record { steady = c.recursive_descent.ensures.steady; done_segment = segment_descent_done c.requires.asked c.requires.ask_segment c.reach-r.ensures c.in-Ok.is c.if-k-eq-END.false c.if-k-eq-CHILD.false _ _ c.recursive_descent.ensures.done_descent }

-- next_kept
pub next_kept-loop-j-init : goal.next_kept-loop-j-init
next_kept-loop-j-init t c = record { low = omega arith; high = λ h. h; passed = λ t k h m a b. absurd (omega arith) }

-- next_kept
pub next_kept-eval_filter_expr-s-requires : goal.next_kept-eval_filter_expr-s-requires
next_kept-eval_filter_expr-s-requires t c = (omega (arith, c.decreases), (record { few_p = c.requires.given.few_p; few_l = c.requires.given.few_l; tab = c.requires.given.tab; root_in = c.requires.root_in; node_in = omega (arith, c.loop-j-test.true, c.requires.range (omega (arith, c.loop-j.invariant.low, c.loop-j-test.true))) }, rest_start c.requires.test))

-- next_kept
pub next_kept-returns-then-not-s : goal.next_kept-returns-then-not-s
next_kept-returns-then-not-s t c = next_met c.loop-j.invariant

-- next_kept
pub next_kept-eval_filter_expr-r-requires : goal.next_kept-eval_filter_expr-r-requires
next_kept-eval_filter_expr-r-requires t c = (omega (arith, c.eval_filter_expr-s.ensures.later (code_near c.requires).0, c.decreases), (record { few_p = c.requires.given.few_p; few_l = c.requires.given.few_l; tab = c.requires.given.tab; root_in = c.requires.root_in; node_in = omega (arith, c.loop-j-test.true, c.requires.range (omega (arith, c.loop-j.invariant.low, c.loop-j-test.true))) }, rest_later c.eval_filter_expr-s.ensures c.requires.test))

-- next_kept
pub next_kept-returns-then-r : goal.next_kept-returns-then-r
next_kept-returns-then-r t c = next_found c.loop-j.invariant (λ n. (said_later c.eval_filter_expr-s.ensures (said_rest c.eval_filter_expr-r.ensures (c.eval_filter_expr-r.ensures.onward refl)))) c.if-r.true

-- next_kept
pub next_kept-overflow_add-result : goal.next_kept-overflow_add-result
next_kept-overflow_add-result t c = omega (arith, c.loop-j-test.true, c.ranges.e)

-- next_kept
pub next_kept-returns-then-s-z : goal.next_kept-returns-then-s-z
next_kept-returns-then-s-z t c = next_met (next_again c.loop-j.invariant c.loop-j-test.true (said_later c.eval_filter_expr-s.ensures (said_rest c.eval_filter_expr-r.ensures (c.eval_filter_expr-r.ensures.onward refl))) c.if-r.false)

-- next_kept
pub next_kept-returns-then-s : goal.next_kept-returns-then-s
next_kept-returns-then-s t c = next_found c.loop-j.invariant (λ n. said_test c.eval_filter_expr-s.ensures (omega (arith, c.if-s-z.false))) c.if-s.true

-- next_kept
pub next_kept-loop-j-preserved : goal.next_kept-loop-j-preserved
next_kept-loop-j-preserved t c = next_again c.loop-j.invariant c.loop-j-test.true (said_test c.eval_filter_expr-s.ensures (omega (arith, c.if-s-z.false))) c.if-s.false

-- next_kept
pub next_kept-returns : goal.next_kept-returns
next_kept-returns t c = next_end c.loop-j.invariant c.loop-j-test.false c.max.ensures

-- recursive_descent
pub recursive_descent-apply_selectors-requires : goal.recursive_descent-apply_selectors-requires
recursive_descent-apply_selectors-requires t c = (omega arith, (c.requires.asked, descent_selectors c.requires.ask_descent))

-- recursive_descent
pub recursive_descent-first_child-first-requires : goal.recursive_descent-first_child-first-requires
recursive_descent-first_child-first-requires t c = c.requires.ask_descent.node_in

-- recursive_descent
pub recursive_descent-child_count-count-requires : goal.recursive_descent-child_count-count-requires
recursive_descent-child_count-count-requires t c = c.requires.ask_descent.node_in

-- recursive_descent
pub recursive_descent-overflow_add-e : goal.recursive_descent-overflow_add-e
recursive_descent-overflow_add-e t c = omega (arith, c.first_child-first.type_inv, c.child_count-count.type_inv)

-- recursive_descent
pub recursive_descent-skip_scalars-j-requires : goal.recursive_descent-skip_scalars-j-requires
recursive_descent-skip_scalars-j-requires t c =
    let g = range_of_lem _ _ c.requires.asked.given.tab _ c.requires.ask_descent.node_in _ _ c.first_child-first.ensures c.child_count-count.ensures in
    record { asked = asked_later c.apply_selectors.ensures.steady c.requires.asked (selectors_room c.requires.asked (descent_selectors c.requires.ask_descent) c.apply_selectors.ensures.done_selectors); ask_flats = record { upto = omega arith; range = λ h. range_in _ _ c.requires.asked.given.tab _ c.requires.ask_descent.node_in _ _ g (omega arith); descends = c.requires.ask_descent.descends } }

-- recursive_descent
pub recursive_descent-loop-j-init : goal.recursive_descent-loop-j-init
recursive_descent-loop-j-init t c =
    let a = asked_later c.apply_selectors.ensures.steady c.requires.asked (selectors_room c.requires.asked (descent_selectors c.requires.ask_descent) c.apply_selectors.ensures.done_selectors) in
    record { low = omega arith; high = c.skip_scalars-j.ensures.done_flats.high; going = going_start _ _ _ (asked_later c.skip_scalars-j.ensures.steady a c.skip_scalars-j.ensures.done_flats.room) }

-- recursive_descent
pub recursive_descent-recursive_descent-requires : goal.recursive_descent-recursive_descent-requires
recursive_descent-recursive_descent-requires t c =
    let a = asked_later c.apply_selectors.ensures.steady c.requires.asked (selectors_room c.requires.asked (descent_selectors c.requires.ask_descent) c.apply_selectors.ensures.done_selectors) in
    let g = range_of_lem _ _ c.requires.asked.given.tab _ c.requires.ask_descent.node_in _ _ c.first_child-first.ensures c.child_count-count.ensures in
    let h = child_of c.requires.asked.given.tab c.requires.ask_descent.node_in g c.skip_scalars-j.ensures.done_flats.low c.loop-j.invariant.low c.loop-j-test.true in
    (omega (arith, h.1, c.requires.asked.given.tab.depths _ h.0), (going_asked c.loop-j.invariant.going (asked_later c.skip_scalars-j.ensures.steady a c.skip_scalars-j.ensures.done_flats.room), record { node_in = h.0; descends = c.requires.ask_descent.descends }))

-- recursive_descent
pub recursive_descent-overflow_add-j : goal.recursive_descent-overflow_add-j
recursive_descent-overflow_add-j t c = omega (arith, c.loop-j-test.true, c.first_child-first.type_inv, c.child_count-count.type_inv)

-- recursive_descent
pub recursive_descent-skip_scalars-j-requires-in-loop-j : goal.recursive_descent-skip_scalars-j-requires-in-loop-j
recursive_descent-skip_scalars-j-requires-in-loop-j t c =
    let a = asked_later c.apply_selectors.ensures.steady c.requires.asked (selectors_room c.requires.asked (descent_selectors c.requires.ask_descent) c.apply_selectors.ensures.done_selectors) in
    let g = range_of_lem _ _ c.requires.asked.given.tab _ c.requires.ask_descent.node_in _ _ c.first_child-first.ensures c.child_count-count.ensures in
    let h = child_of c.requires.asked.given.tab c.requires.ask_descent.node_in g c.skip_scalars-j.ensures.done_flats.low c.loop-j.invariant.low c.loop-j-test.true in
    let b = going_asked c.loop-j.invariant.going (asked_later c.skip_scalars-j.ensures.steady a c.skip_scalars-j.ensures.done_flats.room) in
    record { asked = asked_later c.recursive_descent.ensures.steady b (descent_room b (record { node_in = h.0; descends = c.requires.ask_descent.descends }) c.recursive_descent.ensures.done_descent); ask_flats = record { upto = omega (arith, c.loop-j-test.true); range = λ y. range_in _ _ c.requires.asked.given.tab _ c.requires.ask_descent.node_in _ _ g (omega (arith, c.skip_scalars-j.ensures.done_flats.low, c.loop-j.invariant.low)); descends = c.requires.ask_descent.descends } }

-- recursive_descent
pub recursive_descent-loop-j-smaller : goal.recursive_descent-loop-j-smaller
recursive_descent-loop-j-smaller t c = omega (arith, c.skip_scalars-j-in-loop-j.ensures.done_flats.low, c.loop-j-test.true)

-- recursive_descent
pub recursive_descent-loop-j-preserved : goal.recursive_descent-loop-j-preserved
recursive_descent-loop-j-preserved t c =
    let a = asked_later c.apply_selectors.ensures.steady c.requires.asked (selectors_room c.requires.asked (descent_selectors c.requires.ask_descent) c.apply_selectors.ensures.done_selectors) in
    let g = range_of_lem _ _ c.requires.asked.given.tab _ c.requires.ask_descent.node_in _ _ c.first_child-first.ensures c.child_count-count.ensures in
    let h = child_of c.requires.asked.given.tab c.requires.ask_descent.node_in g c.skip_scalars-j.ensures.done_flats.low c.loop-j.invariant.low c.loop-j-test.true in
    let b = going_asked c.loop-j.invariant.going (asked_later c.skip_scalars-j.ensures.steady a c.skip_scalars-j.ensures.done_flats.room) in
    descent_again c.loop-j.invariant c.loop-j-test.true c.recursive_descent.ensures.steady (descent_room b (record { node_in = h.0; descends = c.requires.ask_descent.descends }) c.recursive_descent.ensures.done_descent) c.recursive_descent.ensures.done_descent c.skip_scalars-j-in-loop-j.ensures.steady c.skip_scalars-j-in-loop-j.ensures.done_flats

-- recursive_descent
pub recursive_descent-returns : goal.recursive_descent-returns
recursive_descent-returns t c =
    let g = range_of_lem _ _ c.requires.asked.given.tab _ c.requires.ask_descent.node_in _ _ c.first_child-first.ensures c.child_count-count.ensures in
    record { steady = steady_then c.apply_selectors.ensures.steady (steady_then c.skip_scalars-j.ensures.steady c.loop-j.invariant.going.kept); done_descent = descent_done c.requires.asked c.requires.ask_descent g _ _ c.apply_selectors.ensures.done_selectors c.apply_selectors.ensures.steady c.skip_scalars-j.ensures.done_flats c.skip_scalars-j.ensures.steady (descent_ended c.loop-j.invariant c.loop-j-test.false) }

-- rows-keep
pub rows::keep-keep_rows-j-requires : goal.rows::keep-keep_rows-j-requires
rows::keep-keep_rows-j-requires t c = record { asked = c.requires.asked; ask_rows = c.requires.ask_rows.0 }

-- rows-keep
pub rows::keep-returns-then-e-j : goal.rows::keep-returns-then-e-j
rows::keep-returns-then-e-j t c = record { steady = c.keep_rows-j.ensures.steady; done_kept = rows_then (c.keep_rows-j.ensures.steady, c.keep_rows-j.ensures.done_rows) (kept_none c.args.lent.now c.if-e-j.true) }

-- rows-keep
pub rows::keep-loop-j-init : goal.rows::keep-loop-j-init
rows::keep-loop-j-init t c = cells_first _ _ _ (rows_given (c.keep_rows-j.ensures.steady, c.keep_rows-j.ensures.done_rows) c.requires.asked) c.if-e-j.false refl

-- rows-keep
pub rows::keep-returns-then-cap-at : goal.rows::keep-returns-then-cap-at
rows::keep-returns-then-cap-at t c = record { steady = steady_then c.keep_rows-j.ensures.steady c.loop-j.invariant.going.kept; done_kept = rows_then (c.keep_rows-j.ensures.steady, c.keep_rows-j.ensures.done_rows) (cells_full c.loop-j.invariant (rows_given (c.keep_rows-j.ensures.steady, c.keep_rows-j.ensures.done_rows) c.requires.asked) c.if-cap-at.true) }

-- rows-keep
pub rows::keep-overflow_sub-j : goal.rows::keep-overflow_sub-j
rows::keep-overflow_sub-j t c = omega (arith, c.loop-j.invariant.low, c.keep_rows-j.ensures.done_rows.low)

-- rows-keep
pub rows::keep-chunk-requires : goal.rows::keep-chunk-requires
rows::keep-chunk-requires t c = omega (arith, c.loop-j-test.true, c.requires.ask_rows.0.range c.requires.ask_rows.1.1, c.requires.asked.given.tab.size.few)

-- rows-keep
pub rows::keep-chunk_end-k-requires : goal.rows::keep-chunk_end-k-requires
rows::keep-chunk_end-k-requires t c = (c.loop-j-test.true, (omega (arith, c.requires.ask_rows.0.range c.requires.ask_rows.1.1, c.requires.asked.given.tab.size.few), c.chunk.ensures.0))

-- rows-keep
pub rows::keep-tell-requires : goal.rows::keep-tell-requires
rows::keep-tell-requires t c = (omega (arith, c.decreases), (cells_next c.loop-j.invariant (rows_given (c.keep_rows-j.ensures.steady, c.keep_rows-j.ensures.done_rows) c.requires.asked) c.requires.ask_rows.0 c.keep_rows-j.ensures.done_rows.low c.chunk_end-k.ensures.1.0, (c.chunk_end-k.ensures.0, omega (arith, c.chunk_end-k.ensures.1.1))))

-- rows-keep
pub rows::keep-loop-j-smaller-then-k-j : goal.rows::keep-loop-j-smaller-then-k-j
rows::keep-loop-j-smaller-then-k-j t c = omega (arith, c.chunk_end-k.ensures.0, c.chunk_end-k.ensures.1.0, c.if-k-j.true, c.loop-j-test.true)

-- rows-keep
pub rows::keep-loop-j-preserved-then-k-j : goal.rows::keep-loop-j-preserved-then-k-j
rows::keep-loop-j-preserved-then-k-j t c = cells_filled c.loop-j.invariant c.chunk_end-k.ensures.1.0 c.tell.ensures c.tell.auto.column

-- rows-keep
pub rows::keep-overflow_sub-c : goal.rows::keep-overflow_sub-c
rows::keep-overflow_sub-c t c = omega (arith, c.loop-j.invariant.from)

-- rows-keep
pub rows::keep-offset_bounds-column-j : goal.rows::keep-offset_bounds-column-j
rows::keep-offset_bounds-column-j t c = omega (arith, cell_within c.loop-j.invariant c.if-k-j.false)

-- rows-keep
pub rows::keep-bounds-column-j : goal.rows::keep-bounds-column-j
rows::keep-bounds-column-j t c = omega (arith, cell_within c.loop-j.invariant c.if-k-j.false)

-- rows-keep
pub rows::keep-eval_filter_expr-s-requires : goal.rows::keep-eval_filter_expr-s-requires
rows::keep-eval_filter_expr-s-requires t c = let g = going_asked c.loop-j.invariant.going (rows_given (c.keep_rows-j.ensures.steady, c.keep_rows-j.ensures.done_rows) c.requires.asked) in let o = c.requires.ask_rows.0.range c.requires.ask_rows.1.1 in let y = cell_here c.loop-j.invariant c.if-k-j.false in (omega (arith, y.later, c.place.ensures, c.decreases), (record { few_p = g.given.few_p; few_l = g.given.few_l; tab = g.given.tab; root_in = g.root_in; node_in = omega (arith, c.loop-j-test.true) }, rest_here y c.answer.ensures c.place.ensures c.requires.ask_rows.0.test))

-- rows-keep
pub rows::keep-evaluate_segment-requires : goal.rows::keep-evaluate_segment-requires
rows::keep-evaluate_segment-requires t c = let g = going_asked c.loop-j.invariant.going (rows_given (c.keep_rows-j.ensures.steady, c.keep_rows-j.ensures.done_rows) c.requires.asked) in let o = c.requires.ask_rows.0.range c.requires.ask_rows.1.1 in (omega (arith, c.requires.ask_rows.1.0, c.decreases), (g, record { node_in = omega (arith, c.loop-j-test.true); query = c.requires.ask_rows.0.query }))

-- rows-keep
pub rows::keep-overflow_add-j : goal.rows::keep-overflow_add-j
rows::keep-overflow_add-j t c = omega (arith, c.loop-j-test.true, c.ranges.e)

-- rows-keep
pub rows::keep-loop-j-smaller-then-s : goal.rows::keep-loop-j-smaller-then-s
rows::keep-loop-j-smaller-then-s t c = omega (arith, c.loop-j-test.true)

-- rows-keep
pub rows::keep-loop-j-preserved-then-s : goal.rows::keep-loop-j-preserved-then-s
rows::keep-loop-j-preserved-then-s t c = let g = going_asked c.loop-j.invariant.going (rows_given (c.keep_rows-j.ensures.steady, c.keep_rows-j.ensures.done_rows) c.requires.asked) in let o = c.requires.ask_rows.0.range c.requires.ask_rows.1.1 in cells_in c.loop-j.invariant c.loop-j-test.true (goes_here (cell_here c.loop-j.invariant c.if-k-j.false) c.answer.ensures c.place.ensures (said_rest c.eval_filter_expr-s.ensures (c.eval_filter_expr-s.ensures.onward refl))) c.if-s.true c.evaluate_segment.ensures.steady (segment_room g (record { node_in = omega (arith, c.loop-j-test.true); query = c.requires.ask_rows.0.query }) c.evaluate_segment.ensures.done_segment) c.evaluate_segment.ensures.done_segment

-- rows-keep
pub rows::keep-overflow_add-j-else-s : goal.rows::keep-overflow_add-j-else-s
rows::keep-overflow_add-j-else-s t c = omega (arith, c.loop-j-test.true, c.ranges.e)

-- rows-keep
pub rows::keep-loop-j-smaller : goal.rows::keep-loop-j-smaller
rows::keep-loop-j-smaller t c = omega (arith, c.loop-j-test.true)

-- rows-keep
pub rows::keep-loop-j-preserved : goal.rows::keep-loop-j-preserved
rows::keep-loop-j-preserved t c = cells_out c.loop-j.invariant c.loop-j-test.true (goes_here (cell_here c.loop-j.invariant c.if-k-j.false) c.answer.ensures c.place.ensures (said_rest c.eval_filter_expr-s.ensures (c.eval_filter_expr-s.ensures.onward refl))) c.if-s.false

-- rows-keep
pub rows::keep-returns : goal.rows::keep-returns
rows::keep-returns t c = record { steady = steady_then c.keep_rows-j.ensures.steady c.loop-j.invariant.going.kept; done_kept = rows_then (c.keep_rows-j.ensures.steady, c.keep_rows-j.ensures.done_rows) (cells_end c.loop-j.invariant c.loop-j-test.false) }

-- rows-tell
pub rows::tell-overflow_sub-e : goal.rows::tell-overflow_sub-e
rows::tell-overflow_sub-e t c = omega (arith, c.requires.1.0)

-- rows-tell
pub rows::tell-lay-requires : goal.rows::tell-lay-requires
rows::tell-lay-requires t c = let n = code_near c.requires.0 in (c.requires.1.1, omega (arith, n.0, n.1))

-- rows-tell
pub rows::tell-fill_cells-q-requires : goal.rows::tell-fill_cells-q-requires
rows::tell-fill_cells-q-requires t c = record { next = c.requires.0; upto = omega (arith, c.requires.1.0); column = tell_start c.requires.0 (omega (arith, c.requires.1.1)) c.lay.ensures }

-- rows-tell
pub rows::tell-loop-q-init : goal.rows::tell-loop-q-init
rows::tell-loop-q-init t c = (c.fill_cells-q.ensures.column, (refl, c.fill_cells-q.ensures.lower_bound))

-- rows-tell
pub rows::tell-turn-requires : goal.rows::tell-turn-requires
rows::tell-turn-requires t c = let w = c.loop-q.invariant.1.1 c.loop-q-test.true in (omega (arith, c.decreases), (record { next = c.requires.0; upto = omega (arith, c.requires.1.0); column = c.loop-q.invariant.0 }, w))

-- rows-tell
pub rows::tell-overflow_add-q : goal.rows::tell-overflow_add-q
rows::tell-overflow_add-q t c = omega (arith, c.loop-q-test.true, (code_near c.requires.0).1)

-- rows-tell
pub rows::tell-fill_cells-q-requires-in-loop-q : goal.rows::tell-fill_cells-q-requires-in-loop-q
rows::tell-fill_cells-q-requires-in-loop-q t c = record { next = c.requires.0; upto = omega (arith, c.requires.1.0); column = c.turn.ensures }

-- rows-tell
pub rows::tell-loop-q-smaller : goal.rows::tell-loop-q-smaller
rows::tell-loop-q-smaller t c = later_less c.fill_cells-q-in-loop-q.ensures.lower_bound c.loop-q-test.true

-- rows-tell
pub rows::tell-loop-q-preserved : goal.rows::tell-loop-q-preserved
rows::tell-loop-q-preserved t c = (c.fill_cells-q-in-loop-q.ensures.column, (c.fill_cells-q-in-loop-q.auto.column ∙ c.turn.auto.column ∙ c.loop-q.invariant.1.0, λ h. omega (arith, c.fill_cells-q-in-loop-q.ensures.lower_bound h, c.loop-q.invariant.1.1 c.loop-q-test.true)))

-- rows-tell
pub rows::tell-shape_of-column : goal.rows::tell-shape_of-column
rows::tell-shape_of-column t c = c.loop-q.invariant.1.0 ∙ c.fill_cells-q.auto.column ∙ c.lay.auto.column

-- rows-tell
pub rows::tell-returns : goal.rows::tell-returns
rows::tell-returns t c = c.loop-q.invariant.0

-- rows-turn
pub rows::turn-loop-j-init : goal.rows::turn-loop-j-init
rows::turn-loop-j-init t c = (omega arith, (c.requires.0.column, refl))

-- rows-turn
pub rows::turn-overflow_sub-c : goal.rows::turn-overflow_sub-c
rows::turn-overflow_sub-c t c = omega (arith, c.loop-j.invariant.0)

-- rows-turn
pub rows::turn-offset_bounds-column-j : goal.rows::turn-offset_bounds-column-j
rows::turn-offset_bounds-column-j t c = omega (arith, turn_place c.requires.0.next c.loop-j.invariant.1.0 c.loop-j.invariant.0 c.loop-j-test.true)

-- rows-turn
pub rows::turn-bounds-column-j : goal.rows::turn-bounds-column-j
rows::turn-bounds-column-j t c = omega (arith, turn_place c.requires.0.next c.loop-j.invariant.1.0 c.loop-j.invariant.0 c.loop-j-test.true)

-- rows-turn
pub rows::turn-eval_filter_expr-s-requires : goal.rows::turn-eval_filter_expr-s-requires
rows::turn-eval_filter_expr-s-requires t c = (omega (arith, c.decreases), (turn_within c.requires.0.next c.loop-j.invariant.1.0 c.loop-j.invariant.0 c.loop-j-test.true, turn_asked c.requires.0.next c.loop-j.invariant.1.0 c.loop-j.invariant.0 c.loop-j-test.true c.answer.ensures (sym c.if-place-q.false ∙ c.place.ensures)))

-- rows-turn
pub rows::turn-cell-requires : goal.rows::turn-cell-requires
rows::turn-cell-requires t c = omega (arith, c.eval_filter_expr-s.ensures.near, (code_near c.requires.0.next).1)

-- rows-turn
pub rows::turn-overflow_sub-column : goal.rows::turn-overflow_sub-column
rows::turn-overflow_sub-column t c = omega (arith, c.loop-j.invariant.0)

-- rows-turn
pub rows::turn-offset_bounds-column-j-in-loop-j : goal.rows::turn-offset_bounds-column-j-in-loop-j
rows::turn-offset_bounds-column-j-in-loop-j t c = omega (arith, turn_place c.requires.0.next c.loop-j.invariant.1.0 c.loop-j.invariant.0 c.loop-j-test.true)

-- rows-turn
pub rows::turn-bounds-column-j-in-loop-j : goal.rows::turn-bounds-column-j-in-loop-j
rows::turn-bounds-column-j-in-loop-j t c = omega (arith, turn_place c.requires.0.next c.loop-j.invariant.1.0 c.loop-j.invariant.0 c.loop-j-test.true)

-- rows-turn
pub rows::turn-loop-j-preserved : goal.rows::turn-loop-j-preserved
rows::turn-loop-j-preserved t c = (omega (arith, c.loop-j.invariant.0), (turn_set c.requires.0.next c.loop-j.invariant.1.0 c.loop-j.invariant.0 c.loop-j-test.true c.answer.ensures (sym c.if-place-q.false ∙ c.place.ensures) c.eval_filter_expr-s.ensures _ c.cell.ensures, length-set c.loop-j.column _ _ ∙ c.loop-j.invariant.1.1))

-- rows-turn
pub rows::turn-loop-j-preserved-then-place-q : goal.rows::turn-loop-j-preserved-then-place-q
rows::turn-loop-j-preserved-then-place-q t c = (omega (arith, c.loop-j.invariant.0), c.loop-j.invariant.1)

-- rows-turn
pub rows::turn-shape_of-column : goal.rows::turn-shape_of-column
rows::turn-shape_of-column t c = c.loop-j.invariant.1.1

-- rows-turn
pub rows::turn-returns : goal.rows::turn-returns
rows::turn-returns t c = c.loop-j.invariant.1.0
