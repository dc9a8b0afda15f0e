-- Bytes 0-3 are those of a text under the list, there is no key, the parent is the list, and the part is asked for.
use mathlib.Core.Bool.{false≢true}
use mathlib.Core.Path.{sym, ◌∙◌, ap₂}
use borrow.Author.Tests.{not-false}
use Rattle.definition.specs.Tables.{good_part}
use Rattle.table.proofs.Next.{item_childless, item_text}
use borrow.Author.Rules.{rules}
use mathlib.Core.Path.{ap}
use mathlib.Core.Bool.{not}
use Rattle.table.proofs.rules.text_item_right.Goals as goal

pub returns-then-head : goal.returns-then-head
returns-then-head c = record { node_value = λ z. absurd (false≢true z); node_value_2 = λ z. absurd (false≢true z) }

pub returns-then-not-no_key : goal.returns-then-not-no_key
returns-then-not-no_key c = record { node_value = λ z. absurd (false≢true z); node_value_2 = λ z. absurd (false≢true z) }

pub returns-then-parent : goal.returns-then-parent
returns-then-parent c = record { node_value = λ z. absurd (false≢true z); node_value_2 = λ z. absurd (false≢true z) }

pub returns : goal.returns
returns c =
    let z = sym c.no_key.ensures ∙ not-false _ (ap not c.if-not-no_key.false) in
    let q = sym c.parent.ensures ∙ c.if-parent.false in
    let g = ap₂ (good_part c.args.text.now) c.low_word.ensures c.high_word.ensures in
    record { node_value = λ y. item_text c.args.table.now c.args.parent c.args.depth c.args.node _ c.requires.0 c.head.ensures c.if-head.false c.args.text.now z q (sym g ∙ sym c.good_part.ensures ∙ y); node_value_2 = λ _. item_childless c.args.table.now c.args.parent c.args.depth c.args.node _ c.requires.0 c.head.ensures c.if-head.false }
