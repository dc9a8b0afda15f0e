-- Only a text is asked about.
use native.Mathlib.Omega.{arith}
use mathlib.Core.Path.{sym, ◌∙◌, ap₂}
use mathlib.Core.Bool.{false≢true}
use Rattle.definition.specs.Tables.{good_part}
use Rattle.table_laws.specs.Starts.{inside_none, inside_text}
use borrow.Author.Rules.{rules}
use Rattle.table.proofs.texts.text_inside.Goals as goal

pub returns-then-kind-ne-KIND_TEXT : goal.returns-then-kind-ne-KIND_TEXT
returns-then-kind-ne-KIND_TEXT c = sym (inside_none c.args.table.now c.args.text.now c.args.node (omega arith))

pub good_part-requires : goal.good_part-requires
good_part-requires c = record { ascii = λ e. absurd (omega arith); utf8 = λ e. absurd (omega arith) }

pub returns : goal.returns
returns c =
    c.good_part.ensures
    ∙ ap₂ (good_part c.args.text.now) c.low_word.ensures c.high_word.ensures
    ∙ sym (inside_text c.args.table.now c.args.text.now c.args.node (omega arith))
