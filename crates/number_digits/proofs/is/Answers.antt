-- `number_digits::is` meets its contract: the test of the byte, and nothing past the end.
use Rattle.number_digits.proofs.Places.{is_tested, is_past}
use Rattle.number_digits.proofs.is.Goals as goal

pub returns-then-at-s : goal.returns-then-at-s
returns-then-at-s c = is_tested c.args.s.now c.args.at c.args.x c.if-at-s.true

pub returns-else-at-s : goal.returns-else-at-s
returns-else-at-s c = is_past _ _ _ c.if-at-s.false
