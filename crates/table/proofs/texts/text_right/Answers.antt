-- The text, and then the key.
use borrow.Author.Tests.{not-true, not-false}
use mathlib.Core.Path.{sym, ◌∙◌}
use Rattle.table_laws.specs.Starts.{text_wrong, text_by_keys}
use borrow.Author.Rules.{rules}
use mathlib.Core.Path.{ap}
use mathlib.Core.Bool.{not}
use Rattle.table.proofs.texts.text_right.Goals as goal

pub returns-then-not-text_inside : goal.returns-then-not-text_inside
returns-then-not-text_inside c = sym (text_wrong c.args.table.now c.args.text.now c.args.node (sym c.text_inside.ensures ∙ not-true _ (ap not c.if-not-text_inside.true)))

pub returns : goal.returns
returns c = c.keys_right.ensures ∙ sym (text_by_keys c.args.table.now c.args.text.now c.args.node (sym c.text_inside.ensures ∙ not-false _ (ap not c.if-not-text_inside.false)))
