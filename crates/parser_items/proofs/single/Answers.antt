-- `parser_items::single` meets its contract: three bytes are put one by one.
--
use Rattle.parser_items.specs.Laws.{put_put}
use Rattle.parser_items.proofs.single.Goals as goal

pub returns : goal.returns
returns c = put_put (put_put c.item-a.ensures c.item-b.ensures) c.item.ensures
