-- A record is wrong by its head, by bytes 16-23 or by its place.
use borrow.Author.Tests.{not-true, not-false}
use mathlib.Core.Path.{sym, ◌∙◌, ap}
use Rattle.definition.specs.Tables.{stands_record}
use Rattle.table_laws.specs.Records.{wrong_head, wrong_payload, record_by_place}
use borrow.Author.Rules.{rules}
use mathlib.Core.Bool.{not}
use Rattle.table.proofs.structure.record_right.Goals as goal

pub returns-then-not-head_right : goal.returns-then-not-head_right
returns-then-not-head_right c = sym (wrong_head c.args.table.now c.args.node (sym c.head_right.ensures ∙ not-true _ (ap not c.if-not-head_right.true)))

pub returns-then-not-payload_right : goal.returns-then-not-payload_right
returns-then-not-payload_right c = sym (wrong_payload c.args.table.now c.args.node (sym c.payload_right.ensures ∙ not-true _ (ap not c.if-not-payload_right.true)))

pub returns-then-node-eq0 : goal.returns-then-node-eq0
returns-then-node-eq0 c =
    let h = sym c.head_right.ensures ∙ not-false _ (ap not c.if-not-head_right.false) in
    let p = sym c.payload_right.ensures ∙ not-false _ (ap not c.if-not-payload_right.false) in
    c.root_place.ensures ∙ ap (stands_record c.args.table.now) (sym c.if-node-eq0.true) ∙ sym (record_by_place c.args.table.now c.args.node h p)

pub returns : goal.returns
returns c =
    let h = sym c.head_right.ensures ∙ not-false _ (ap not c.if-not-head_right.false) in
    let p = sym c.payload_right.ensures ∙ not-false _ (ap not c.if-not-payload_right.false) in
    c.place_right.ensures ∙ sym (record_by_place c.args.table.now c.args.node h p)
