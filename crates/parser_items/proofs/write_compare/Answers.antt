-- `parser_items::write_compare` meets its contract: both verdicts are set, and then the comparison is put.
--
use Rattle.parser_items.specs.Laws.{marked_of, put_put}
use Rattle.parser_items.proofs.Typing.{compare_done}
use Rattle.parser_items.proofs.write_compare.Goals as goal

pub returns : goal.returns
returns c = compare_done c.value_verdict.ensures c.value_verdict-2.ensures (marked_of c.judged-a.ensures.place c.judged-a.ensures.marks) (marked_of c.judged-b.ensures.place c.judged-b.ensures.marks) (put_put c.item-d.ensures c.item.ensures)
