-- `parser_items::opened` meets its contract: three bytes are put one by one.
--
use Rattle.parser_items.specs.Laws.{put_put}
use Rattle.parser_items.proofs.opened.Goals as goal

pub returns : goal.returns
returns c = put_put (put_put c.item-a.ensures c.item-b.ensures) c.item.ensures
