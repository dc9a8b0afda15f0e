-- A member of a map is wrong by what every child has, by its bytes 16-23, or by its key.
use native.Mathlib.Omega.{arith}
use mathlib.Core.Path.{sym, ◌∙◌}
use borrow.Author.Tests.{not-true, not-false}
use Rattle.basics.specs.Bools.{both_answers}
use Rattle.table_laws.specs.Rights.{wrong_payload, right_by_place}
use Rattle.table.proofs.Cursor.{found_range}
use Rattle.table.proofs.Under.{wrong_under, under_map}
use borrow.Author.Rules.{rules}
use mathlib.Core.Path.{ap}
use mathlib.Core.Bool.{not}
use Rattle.table.proofs.rules.member_steps.Goals as goal

pub returns-then-not-stands_under : goal.returns-then-not-stands_under
returns-then-not-stands_under c = record { result_value = sym (wrong_under c.args.table.now c.args.text.now c.args.above.parent c.args.node c.requires.child.0.under.place.earlier (found_range c.args.table.now c.args.node c.args.above c.requires.child.0.under) (λ u. both_answers _ (c.stands_under.ensures.value u) (not-true _ (ap not c.if-not-stands_under.true)))); kept_2 = tt }

pub returns-then-not-payload_right : goal.returns-then-not-payload_right
returns-then-not-payload_right c = record { result_value = sym (wrong_payload c.args.table.now c.args.text.now c.args.node (sym c.payload_right.ensures ∙ not-true _ (ap not c.if-not-payload_right.true))); kept_2 = tt }

pub member_right-requires : goal.member_right-requires
member_right-requires c = record { child = c.requires.child.0; parent_value = c.requires.parent_value; kept = c.requires.kept; known = c.requires.known }

pub returns : goal.returns
returns c =
    let u = c.stands_under.ensures.under (not-false _ (ap not c.if-not-stands_under.false)) in
    let p = sym c.payload_right.ensures ∙ not-false _ (ap not c.if-not-payload_right.false) in
    record { result_value = c.member_right.ensures.result_value ∙ sym (right_by_place c.args.table.now c.args.text.now c.args.node u.head p ∙ under_map c.args.table.now c.args.text.now c.args.above.parent c.args.node c.requires.child.0.under.place.earlier (found_range c.args.table.now c.args.node c.args.above c.requires.child.0.under) u c.requires.parent_value.0); kept_2 = c.member_right.ensures.kept_2 }
