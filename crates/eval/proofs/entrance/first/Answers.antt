-- `entrance::first` meets its contract: a child segment of one filter, slice or wildcard is its selector, and every other segment is evaluated.
use Prim.Native.Nat.{ℕ, ◌<◌}
use lib.ListN.{get_or}
use native.Mathlib.Omega.{arith}
use Rattle.eval_asks.specs.Lent.{plan_of}
use borrow.Author.Tests.{not-true, not-false}
use Rattle.eval_laws.specs.Ranges.{range_of_lem}
use Rattle.eval_asks.specs.Steady.{steady_then, asked_later}
use Rattle.eval_asks.specs.Kinds.{rest_in, each_asked, wildcard_done, kept_after, kept_room}
use Rattle.eval.specs.Aheads.{ahead_each, ahead_then}
use Rattle.eval.specs.Alone.{enter_bound, enter_head, enter_selector, enter_done, slice_ends, wildcard_ends, filter_fits, filter_ends}
use mathlib.Core.Path.{ap}
use mathlib.Core.Bool.{not}
use Rattle.eval.proofs.entrance.first.Goals as goal

pub bounds-plan-pc : goal.bounds-plan-pc
bounds-plan-pc c = omega (arith, enter_bound c.requires)

pub evaluate_segment-requires : goal.evaluate_segment-requires
evaluate_segment-requires c = record { asked = c.requires.asked; ask_segment = c.requires.segment }

pub returns-then-plan-pc-ne-CHILD : goal.returns-then-plan-pc-ne-CHILD
returns-then-plan-pc-ne-CHILD c = record { kept = c.evaluate_segment.ensures.steady; gives = c.evaluate_segment.ensures.done_segment }

pub word32-head-requires : goal.word32-head-requires
word32-head-requires c = omega (arith, enter_bound c.requires)

pub overflow_add-p : goal.overflow_add-p
overflow_add-p c = omega (arith, enter_bound c.requires, c.requires.asked.given.few_p)

pub overflow_add-rest : goal.overflow_add-rest
overflow_add-rest c = omega (arith, filter_fits c.requires (λ k. (c.type_inv.plan k).fits) c.word32-head.ensures c.if-head-eq-FILTER_HEAD.true, c.requires.asked.given.few_p)

pub overflow_add-p-then-head-eq-FILTER_HEAD : goal.overflow_add-p-then-head-eq-FILTER_HEAD
overflow_add-p-then-head-eq-FILTER_HEAD c = omega (arith, filter_fits c.requires (λ k. (c.type_inv.plan k).fits) c.word32-head.ensures c.if-head-eq-FILTER_HEAD.true, c.requires.asked.given.few_p)

pub word16-requires : goal.word16-requires
word16-requires c = omega (arith, filter_fits c.requires (λ k. (c.type_inv.plan k).fits) c.word32-head.ensures c.if-head-eq-FILTER_HEAD.true)

pub overflow_add-rest-then-head-eq-FILTER_HEAD : goal.overflow_add-rest-then-head-eq-FILTER_HEAD
overflow_add-rest-then-head-eq-FILTER_HEAD c =
    let b : (k : ℕ) → get_or (plan_of c.args.lent.now) k 0 < 256 = λ k. (c.shared_slice_known-1.given k).fits in
    let h = enter_head c.requires 9 b c.word32-head.ensures c.if-head-eq-FILTER_HEAD.true in
    let q = enter_selector c.requires h (filter_ends c.requires b c.word32-head.ensures c.if-head-eq-FILTER_HEAD.true c.word16.ensures) in
    omega (arith, (rest_in c.requires.asked q).1, c.requires.asked.given.few_p)

pub keep_children-requires : goal.keep_children-requires
keep_children-requires c =
    let b : (k : ℕ) → get_or (plan_of c.args.lent.now) k 0 < 256 = λ k. (c.shared_slice_known-1.given k).fits in
    let h = enter_head c.requires 9 b c.word32-head.ensures c.if-head-eq-FILTER_HEAD.true in
    let q = enter_selector c.requires h (filter_ends c.requires b c.word32-head.ensures c.if-head-eq-FILTER_HEAD.true c.word16.ensures) in
    record { asked = c.requires.asked; ask_selector = q; ask_kind = h.kind_is }

pub eval_filter-requires : goal.eval_filter-requires
eval_filter-requires c =
    let b : (k : ℕ) → get_or (plan_of c.args.lent.now) k 0 < 256 = λ k. (c.shared_slice_known-1.given k).fits in
    let h = enter_head c.requires 9 b c.word32-head.ensures c.if-head-eq-FILTER_HEAD.true in
    let q = enter_selector c.requires h (filter_ends c.requires b c.word32-head.ensures c.if-head-eq-FILTER_HEAD.true c.word16.ensures) in
    record { asked = asked_later c.keep_children.ensures.steady c.requires.asked (kept_room c.requires.asked c.keep_children.ensures.done_keep (not-true _ (ap not c.if-not-keep_children.true))); ask_selector = q; ask_kind = h.kind_is }

pub returns-then-not-keep_children : goal.returns-then-not-keep_children
returns-then-not-keep_children c =
    let b : (k : ℕ) → get_or (plan_of c.args.lent.now) k 0 < 256 = λ k. (c.shared_slice_known-1.given k).fits in
    let h = enter_head c.requires 9 b c.word32-head.ensures c.if-head-eq-FILTER_HEAD.true in
    enter_done c.requires h (filter_ends c.requires b c.word32-head.ensures c.if-head-eq-FILTER_HEAD.true c.word16.ensures) (steady_then c.keep_children.ensures.steady c.eval_filter.ensures.steady) (kept_after c.keep_children.ensures.done_keep (not-true _ (ap not c.if-not-keep_children.true)) c.eval_filter.ensures.done_selector)

pub returns-else-not-keep_children : goal.returns-else-not-keep_children
returns-else-not-keep_children c =
    let b : (k : ℕ) → get_or (plan_of c.args.lent.now) k 0 < 256 = λ k. (c.shared_slice_known-1.given k).fits in
    let h = enter_head c.requires 9 b c.word32-head.ensures c.if-head-eq-FILTER_HEAD.true in
    enter_done c.requires h (filter_ends c.requires b c.word32-head.ensures c.if-head-eq-FILTER_HEAD.true c.word16.ensures) c.keep_children.ensures.steady (c.keep_children.ensures.done_keep.done (not-false _ (ap not c.if-not-keep_children.false)))

pub overflow_add-pc : goal.overflow_add-pc
overflow_add-pc c = omega (arith, enter_bound c.requires, c.requires.asked.given.few_p)

pub each_place-requires : goal.each_place-requires
each_place-requires c =
    let b : (k : ℕ) → get_or (plan_of c.args.lent.now) k 0 < 256 = λ k. (c.shared_slice_known-1.given k).fits in
    let h = enter_head c.requires 7 b c.word32-head.ensures c.if-head-eq-SLICE_HEAD.true in
    record { asked = c.requires.asked; ask_selector = enter_selector c.requires h (slice_ends c.requires b c.word32-head.ensures c.if-head-eq-SLICE_HEAD.true); ask_kind = h.kind_is }

pub returns-then-head-eq-SLICE_HEAD : goal.returns-then-head-eq-SLICE_HEAD
returns-then-head-eq-SLICE_HEAD c =
    let b : (k : ℕ) → get_or (plan_of c.args.lent.now) k 0 < 256 = λ k. (c.shared_slice_known-1.given k).fits in
    let h = enter_head c.requires 7 b c.word32-head.ensures c.if-head-eq-SLICE_HEAD.true in
    enter_done c.requires h (slice_ends c.requires b c.word32-head.ensures c.if-head-eq-SLICE_HEAD.true) c.each_place.ensures.steady c.each_place.ensures.done_selector

pub first_child-i-requires : goal.first_child-i-requires
first_child-i-requires c = c.requires.segment.node_in

pub child_count-n-requires : goal.child_count-n-requires
child_count-n-requires c = c.requires.segment.node_in

pub overflow_add-i : goal.overflow_add-i
overflow_add-i c = omega (arith, c.first_child-i.type_inv, c.child_count-n.type_inv)

pub overflow_add-pc-then-head-eq-WILDCARD_HEAD : goal.overflow_add-pc-then-head-eq-WILDCARD_HEAD
overflow_add-pc-then-head-eq-WILDCARD_HEAD c = omega (arith, enter_bound c.requires, c.requires.asked.given.few_p)

pub ahead-j-requires : goal.ahead-j-requires
ahead-j-requires c =
    let b : (k : ℕ) → get_or (plan_of c.args.lent.now) k 0 < 256 = λ k. (c.shared_slice_known-1.given k).fits in
    let h = enter_head c.requires 8 b c.word32-head.ensures c.if-head-eq-WILDCARD_HEAD.true in
    let q = enter_selector c.requires h (wildcard_ends c.requires b c.word32-head.ensures c.if-head-eq-WILDCARD_HEAD.true) in
    let g = range_of_lem _ _ c.requires.asked.given.tab _ c.requires.segment.node_in _ _ c.first_child-i.ensures c.child_count-n.ensures in
    record { asked = c.requires.asked; ask_each = each_asked c.requires.asked q g }

pub overflow_add-i-then-head-eq-WILDCARD_HEAD : goal.overflow_add-i-then-head-eq-WILDCARD_HEAD
overflow_add-i-then-head-eq-WILDCARD_HEAD c = omega (arith, c.first_child-i.type_inv, c.child_count-n.type_inv)

pub overflow_add-pc-then-head-eq-WILDCARD_HEAD-2 : goal.overflow_add-pc-then-head-eq-WILDCARD_HEAD-2
overflow_add-pc-then-head-eq-WILDCARD_HEAD-2 c = omega (arith, enter_bound c.requires, c.requires.asked.given.few_p)

pub each_child-requires : goal.each_child-requires
each_child-requires c =
    let b : (k : ℕ) → get_or (plan_of c.args.lent.now) k 0 < 256 = λ k. (c.shared_slice_known-1.given k).fits in
    let h = enter_head c.requires 8 b c.word32-head.ensures c.if-head-eq-WILDCARD_HEAD.true in
    let q = enter_selector c.requires h (wildcard_ends c.requires b c.word32-head.ensures c.if-head-eq-WILDCARD_HEAD.true) in
    let g = range_of_lem _ _ c.requires.asked.given.tab _ c.requires.segment.node_in _ _ c.first_child-i.ensures c.child_count-n.ensures in
    record { asked = asked_later c.ahead-j.ensures.steady c.requires.asked c.ahead-j.ensures.done_ahead.room; ask_each = ahead_each c.ahead-j.ensures.done_ahead (each_asked c.requires.asked q g) }

pub returns-then-head-eq-WILDCARD_HEAD : goal.returns-then-head-eq-WILDCARD_HEAD
returns-then-head-eq-WILDCARD_HEAD c =
    let b : (k : ℕ) → get_or (plan_of c.args.lent.now) k 0 < 256 = λ k. (c.shared_slice_known-1.given k).fits in
    let h = enter_head c.requires 8 b c.word32-head.ensures c.if-head-eq-WILDCARD_HEAD.true in
    let q = enter_selector c.requires h (wildcard_ends c.requires b c.word32-head.ensures c.if-head-eq-WILDCARD_HEAD.true) in
    let g = range_of_lem _ _ c.requires.asked.given.tab _ c.requires.segment.node_in _ _ c.first_child-i.ensures c.child_count-n.ensures in
    enter_done c.requires h (wildcard_ends c.requires b c.word32-head.ensures c.if-head-eq-WILDCARD_HEAD.true) (steady_then c.ahead-j.ensures.steady c.each_child.ensures.steady) (wildcard_done c.requires.asked q g h.kind_is (ahead_then c.ahead-j.ensures.done_ahead c.ahead-j.ensures.steady c.each_child.ensures.done_each))

pub evaluate_segment-requires-2 : goal.evaluate_segment-requires-2
evaluate_segment-requires-2 c = record { asked = c.requires.asked; ask_segment = c.requires.segment }

pub returns : goal.returns
returns c = record { kept = c.evaluate_segment-2.ensures.steady; gives = c.evaluate_segment-2.ensures.done_segment }
