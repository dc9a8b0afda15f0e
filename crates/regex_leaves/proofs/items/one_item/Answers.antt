-- `regex_leaves::items::one_item` meets its contract.
use Rattle.regex_leaves.proofs.OfItems.{item_next, item_none}
use Rattle.regex_leaves.proofs.items.one_item.Goals as goal

pub returns-in_err-b : goal.returns-in_err-b
returns-in_err-b c = rw c.from_residual.ensures (item_none _ _ c.in_err-b.ensures)

pub returns : goal.returns
returns c = item_next _ _ c.in_ok-b.ensures c.item_end.ensures
