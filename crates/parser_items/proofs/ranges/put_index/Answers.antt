-- `parser_items::ranges::put_index` meets its contract: the verdict is set, and then the bytes are put.
--
use Rattle.parser_items.specs.Laws.{marked_of, marked_put, put_put}
use Rattle.parser_items.proofs.ranges.put_index.Goals as goal

pub returns : goal.returns
returns c = marked_put (marked_of c.judged-a.ensures.place c.judged-a.ensures.marks) (put_put c.item-b.ensures c.eight.ensures)
