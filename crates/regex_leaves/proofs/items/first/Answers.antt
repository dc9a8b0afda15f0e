-- `regex_leaves::items::first` meets its contract.
use Rattle.regex_leaves.proofs.OfItems.{first_dash, first_item}
use mathlib.Core.Path.{sym, ◌∙◌}
use Rattle.regex_leaves.proofs.items.first.Goals as goal

pub returns-then-is : goal.returns-then-is
returns-then-is c = first_dash _ _ (sym c.is.ensures.told ∙ c.if-is.true)

pub returns : goal.returns
returns c = first_item _ _ (sym c.is.ensures.told ∙ c.if-is.false) c.one_item.ensures
