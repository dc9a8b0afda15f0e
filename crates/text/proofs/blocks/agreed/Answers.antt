-- `text::blocks::agreed` meets its contract.
use mathlib.Core.Path.{sym, ◌∙◌}
use Rattle.text.proofs.Lengths.{agreed_tail, agreed_other}
use Rattle.text.proofs.blocks.agreed.Goals as goal

pub returns-then-is_tail : goal.returns-then-is_tail
returns-then-is_tail c = λ z. agreed_tail c.args.x c.args.asked (sym c.is_tail.ensures ∙ c.if-is_tail.true) z

pub returns : goal.returns
returns c = λ z. agreed_other c.args.x c.args.asked (sym c.is_tail.ensures ∙ c.if-is_tail.false) z
