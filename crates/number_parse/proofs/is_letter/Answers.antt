-- `number_parse::is_letter` meets its contract: the letter in either case.
use Rattle.number_parse.proofs.Chars.{small_letter, other_letter}
use Rattle.number_parse.proofs.is_letter.Goals as goal

pub returns-then-is : goal.returns-then-is
returns-then-is c = small_letter c.args.s.now c.args.at (rw c.if-is.true at c.is.ensures)

pub returns : goal.returns
returns c = other_letter c.args.s.now c.args.at (rw c.if-is.false at c.is.ensures) c.is-2.result c.is-2.ensures
