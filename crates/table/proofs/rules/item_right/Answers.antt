-- A child of a list is wrong by what every child has, by its key, or by its bytes 16-23.
use mathlib.Core.Path.{sym, ◌∙◌}
use borrow.Author.Tests.{not-true, not-false}
use Rattle.basics.specs.Bools.{both_answers}
use Rattle.table_laws.specs.Rights.{wrong_place}
use Rattle.table.proofs.Cursor.{found_range}
use Rattle.table.proofs.Under.{wrong_under, under_list, right_by_payload}
use borrow.Author.Rules.{rules}
use mathlib.Core.Path.{ap}
use mathlib.Core.Bool.{not}
use Rattle.table.proofs.rules.item_right.Goals as goal

pub returns-then-not-stands_under : goal.returns-then-not-stands_under
returns-then-not-stands_under c = sym (wrong_under c.args.table.now c.args.text.now c.args.above.parent c.args.node c.requires.child.0.under.place.earlier (found_range c.args.table.now c.args.node c.args.above c.requires.child.0.under) (λ u. both_answers _ (c.stands_under.ensures.value u) (not-true _ (ap not c.if-not-stands_under.true))))

pub returns-then-not-no_key : goal.returns-then-not-no_key
returns-then-not-no_key c =
    let u = c.stands_under.ensures.under (not-false _ (ap not c.if-not-stands_under.false)) in
    sym (wrong_place c.args.table.now c.args.text.now c.args.node (under_list c.args.table.now c.args.text.now c.args.above.parent c.args.node c.requires.child.0.under.place.earlier (found_range c.args.table.now c.args.node c.args.above c.requires.child.0.under) u c.requires.fact ∙ sym c.no_key.ensures ∙ not-true _ (ap not c.if-not-no_key.true)))

pub returns : goal.returns
returns c =
    let u = c.stands_under.ensures.under (not-false _ (ap not c.if-not-stands_under.false)) in
    let k = under_list c.args.table.now c.args.text.now c.args.above.parent c.args.node c.requires.child.0.under.place.earlier (found_range c.args.table.now c.args.node c.args.above c.requires.child.0.under) u c.requires.fact ∙ sym c.no_key.ensures ∙ not-false _ (ap not c.if-not-no_key.false) in
    c.payload_right.ensures ∙ sym (right_by_payload c.args.table.now c.args.text.now c.args.node u.head k)
