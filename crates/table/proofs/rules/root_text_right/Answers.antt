-- Bytes 0-3 are those of a text under the root, bytes 4-15 are zero, and the part is asked for.
use native.Mathlib.Omega.{arith}
use mathlib.Core.Bool.{false≢true}
use mathlib.Core.Path.{sym, ◌∙◌, ap₂}
use Rattle.definition.specs.Tables.{good_part}
use Rattle.table.proofs.Front.{text_childless, text_right_lem}
use borrow.Author.Rules.{rules}
use Rattle.table.proofs.rules.root_text_right.Goals as goal

pub returns-then-head-ne-TEXT_UNDER_ROOT : goal.returns-then-head-ne-TEXT_UNDER_ROOT
returns-then-head-ne-TEXT_UNDER_ROOT c = record { node_value = λ z. absurd (false≢true z); node_value_2 = λ z. absurd (false≢true z) }

pub returns-then-start-size-ne0 : goal.returns-then-start-size-ne0
returns-then-start-size-ne0 c = record { node_value = λ z. absurd (false≢true z); node_value_2 = λ z. absurd (false≢true z) }

pub returns : goal.returns
returns c =
    let g = ap₂ (good_part c.args.text.now) c.low_word.ensures c.high_word.ensures in
    record { node_value = λ z. text_right_lem c.args.table.now c.args.node _ c.head.ensures c.if-head-ne-TEXT_UNDER_ROOT.false c.args.text.now _ _ _ c.requires.root_list.0 c.requires.root_list.1 c.requires.root_list.2 c.key_start-start.ensures c.key_length-size.ensures c.parent-parent.ensures c.if-start-size-ne0.false (sym g ∙ sym c.good_part.ensures ∙ z); node_value_2 = λ _. text_childless c.args.table.now c.args.node _ c.head.ensures c.if-head-ne-TEXT_UNDER_ROOT.false }
