-- `number_parse::ends` meets its contract: the test of the byte, and the end of the text.
use Rattle.number_parse.proofs.Chars.{ends_past, ends_tested}
use Rattle.number_parse.proofs.ends.Goals as goal

pub returns-then-at-s : goal.returns-then-at-s
returns-then-at-s c = ends_tested c.args.s.now c.args.at c.if-at-s.true c.is_number_char.result c.is_number_char.ensures

pub returns : goal.returns
returns c = ends_past c.args.s.now c.args.at c.if-at-s.false
