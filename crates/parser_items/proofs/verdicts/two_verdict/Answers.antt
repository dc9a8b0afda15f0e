-- `parser_items::verdicts::two_verdict` meets its contract: the number of arguments first, then their types in order.
--
use Rattle.parser_items.proofs.Typing.{two_few, two_many, two_right, two_left}
use Rattle.parser_items.proofs.verdicts.two_verdict.Goals as goal

pub returns-then-sorts-lt6 : goal.returns-then-sorts-lt6
returns-then-sorts-lt6 c = two_few c.args.sorts c.if-sorts-lt6.true

pub returns-then-sorts-gt30 : goal.returns-then-sorts-gt30
returns-then-sorts-gt30 c = two_many c.args.sorts c.if-sorts-gt30.true

pub returns-then-left-eq0 : goal.returns-then-left-eq0
returns-then-left-eq0 c = two_right c.args.sorts c.if-sorts-lt6.false c.if-sorts-gt30.false c.value_verdict-left.ensures c.if-left-eq0.true c.value_verdict.ensures

pub returns : goal.returns
returns c = two_left c.args.sorts c.if-sorts-lt6.false c.if-sorts-gt30.false c.value_verdict-left.ensures c.if-left-eq0.false
