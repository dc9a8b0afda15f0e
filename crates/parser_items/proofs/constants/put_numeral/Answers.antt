-- `parser_items::constants::put_numeral` meets its contract: the three cases one by one.
--
use Rattle.parser_items.specs.Laws.{marked_of}
use Rattle.parser_items.proofs.Numerals.{put_integer, put_float, put_beyond}
use borrow.Author.Rules.{rules}
use Rattle.parser_items.proofs.constants.put_numeral.Goals as goal

pub returns-in-Int : goal.returns-in-Int
returns-in-Int c = λ L. put_integer c.args.v L c.in-Int.is (search rules) c.bits64.ensures c.item-a.ensures c.eight.ensures

pub returns-in-Float : goal.returns-in-Float
returns-in-Float c = λ L. put_float c.args.v L c.in-Float.is c.item-a-in-Float.ensures c.eight-in-Float.ensures

pub returns-in-Beyond : goal.returns-in-Beyond
returns-in-Beyond c = λ L. put_beyond c.args.v L c.in-Beyond.is (marked_of c.beyond.ensures.place c.beyond.ensures.marks) c.item-a-in-Beyond.ensures c.item.ensures
