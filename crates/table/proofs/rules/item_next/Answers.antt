-- A child of a list is wrong by what every child has, by its key, or by its bytes 16-23; else the next node's children begin behind its own.
use native.Mathlib.Omega.{arith}
use mathlib.Core.Path.{sym, ◌∙◌}
use borrow.Author.Tests.{not-true, not-false}
use Rattle.basics.specs.Bools.{both_answers}
use Rattle.table_laws.specs.Rights.{kind_small, wrong_place}
use Rattle.table.proofs.Cursor.{found_range}
use Rattle.table.proofs.Next.{count_half, count_none, next_wrong, next_right, next_as}
use Rattle.table.proofs.Under.{wrong_under, under_list, right_by_payload}
use borrow.Author.Rules.{rules}
use mathlib.Core.Path.{ap}
use mathlib.Core.Bool.{not}
use Rattle.table.proofs.rules.item_next.Goals as goal

pub returns-then-not-stands_under : goal.returns-then-not-stands_under
returns-then-not-stands_under c = next_wrong c.args.table.now c.args.node _ (wrong_under c.args.table.now c.args.text.now c.args.above.parent c.args.node c.requires.child.0.under.place.earlier (found_range c.args.table.now c.args.node c.args.above c.requires.child.0.under) (λ u. both_answers _ (c.stands_under.ensures.value u) (not-true _ (ap not c.if-not-stands_under.true))))

pub returns-then-not-no_key : goal.returns-then-not-no_key
returns-then-not-no_key c =
    let u = c.stands_under.ensures.under (not-false _ (ap not c.if-not-stands_under.false)) in
    next_wrong c.args.table.now c.args.node _ (wrong_place c.args.table.now c.args.text.now c.args.node (under_list c.args.table.now c.args.text.now c.args.above.parent c.args.node c.requires.child.0.under.place.earlier (found_range c.args.table.now c.args.node c.args.above c.requires.child.0.under) u c.requires.fact ∙ sym c.no_key.ensures ∙ not-true _ (ap not c.if-not-no_key.true)))

pub returns-then-not-few_enough : goal.returns-then-not-few_enough
returns-then-not-few_enough c =
    let u = c.stands_under.ensures.under (not-false _ (ap not c.if-not-stands_under.false)) in
    let k = under_list c.args.table.now c.args.text.now c.args.above.parent c.args.node c.requires.child.0.under.place.earlier (found_range c.args.table.now c.args.node c.args.above c.requires.child.0.under) u c.requires.fact ∙ sym c.no_key.ensures ∙ not-false _ (ap not c.if-not-no_key.false) in
    let j = right_by_payload c.args.table.now c.args.text.now c.args.node u.head k in
    next_wrong c.args.table.now c.args.node _ (j ∙ c.few_enough.ensures.many (not-true _ (ap not c.if-not-few_enough.true)) c.args.text.now)

pub range_next-requires : goal.range_next-requires
range_next-requires c =
    let u = c.stands_under.ensures.under (not-false _ (ap not c.if-not-stands_under.false)) in
    let m = kind_small c.args.table.now c.args.node u.head in
    record { node_bound = (c.requires.child.0.node_in, c.requires.child.1); node_value = count_half c.args.table.now c.args.node (omega arith) }

pub returns-then-kind-gt-KIND_TEXT : goal.returns-then-kind-gt-KIND_TEXT
returns-then-kind-gt-KIND_TEXT c =
    let u = c.stands_under.ensures.under (not-false _ (ap not c.if-not-stands_under.false)) in
    let k = under_list c.args.table.now c.args.text.now c.args.above.parent c.args.node c.requires.child.0.under.place.earlier (found_range c.args.table.now c.args.node c.args.above c.requires.child.0.under) u c.requires.fact ∙ sym c.no_key.ensures ∙ not-false _ (ap not c.if-not-no_key.false) in
    let j = right_by_payload c.args.table.now c.args.text.now c.args.node u.head k in
    next_as c.args.table.now c.args.node _ _ c.range_next.result (sym (j ∙ c.few_enough.ensures.range (not-false _ (ap not c.if-not-few_enough.false)) c.args.text.now)) c.range_next.ensures

pub returns-then-not-value_right : goal.returns-then-not-value_right
returns-then-not-value_right c =
    let u = c.stands_under.ensures.under (not-false _ (ap not c.if-not-stands_under.false)) in
    let k = under_list c.args.table.now c.args.text.now c.args.above.parent c.args.node c.requires.child.0.under.place.earlier (found_range c.args.table.now c.args.node c.args.above c.requires.child.0.under) u c.requires.fact ∙ sym c.no_key.ensures ∙ not-false _ (ap not c.if-not-no_key.false) in
    let j = right_by_payload c.args.table.now c.args.text.now c.args.node u.head k in
    next_wrong c.args.table.now c.args.node _ (j ∙ sym c.value_right.ensures ∙ not-true _ (ap not c.if-not-value_right.true))

pub returns : goal.returns
returns c =
    let u = c.stands_under.ensures.under (not-false _ (ap not c.if-not-stands_under.false)) in
    let k = under_list c.args.table.now c.args.text.now c.args.above.parent c.args.node c.requires.child.0.under.place.earlier (found_range c.args.table.now c.args.node c.args.above c.requires.child.0.under) u c.requires.fact ∙ sym c.no_key.ensures ∙ not-false _ (ap not c.if-not-no_key.false) in
    let j = right_by_payload c.args.table.now c.args.text.now c.args.node u.head k in
    next_right c.args.table.now c.args.node _ c.args.first 0 (j ∙ sym c.value_right.ensures ∙ not-false _ (ap not c.if-not-value_right.false)) (sym (count_none c.args.table.now c.args.node (λ z. absurd (omega arith)))) (omega arith)
