-- What the maps that hold a node ask of its key is what one with the least start asks.
use native.Mathlib.Omega.{arith}
use borrow.Author.Tests.{not-true, not-false}
use mathlib.Core.Path.{sym, ◌∙◌, ap₂}
use mathlib.Core.Bool.{false≢true}
use Rattle.definition.specs.Tables.{good_part}
use Rattle.table_laws.specs.Starts.{keys_none, keys_bad, keys_compared}
use Rattle.table.proofs.Checks.{keys_up_to}
use borrow.Author.Rules.{rules}
use mathlib.Core.Path.{ap}
use mathlib.Core.Bool.{not}
use Rattle.table.proofs.texts.keys_right.Goals as goal

pub returns-then-node-from : goal.returns-then-node-from
returns-then-node-from c = sym (keys_none c.args.table.now c.args.text.now c.args.node c.least_start-from.result c.least_start-from.ensures c.if-node-from.true)

pub good_part-requires : goal.good_part-requires
good_part-requires c = record { ascii = λ e. absurd (omega arith); utf8 = λ e. absurd (omega arith) }

pub returns-then-not-good_part : goal.returns-then-not-good_part
returns-then-not-good_part c =
    let g = sym (c.good_part.ensures ∙ ap₂ (good_part c.args.text.now) c.key_start.ensures c.key_length.ensures) ∙ not-true _ (ap not c.if-not-good_part.true) in
    sym (keys_bad c.args.table.now c.args.text.now c.args.node c.least_start-from.result c.least_start-from.ensures c.if-node-from.false g)

pub key_differs-requires : goal.key_differs-requires
key_differs-requires c =
    let g = sym (c.good_part.ensures ∙ ap₂ (good_part c.args.text.now) c.key_start.ensures c.key_length.ensures) ∙ not-false _ (ap not c.if-not-good_part.false) in
    record { from_le_node = c.if-node-from.false; keys_inside = keys_up_to c.args.table.now c.args.text.now c.args.node c.least_start-from.result c.requires.0 c.requires.1 c.least_start-from.ensures g }

pub returns : goal.returns
returns c =
    let g = sym (c.good_part.ensures ∙ ap₂ (good_part c.args.text.now) c.key_start.ensures c.key_length.ensures) ∙ not-false _ (ap not c.if-not-good_part.false) in
    c.key_differs.ensures ∙ sym (keys_compared c.args.table.now c.args.text.now c.args.node c.least_start-from.result c.least_start-from.ensures c.if-node-from.false g)
