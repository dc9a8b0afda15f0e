-- `parser_items::verdicts::one_verdict` meets its contract: the number of arguments first, then the type of the one that there is.
--
use Rattle.parser_items.proofs.Typing.{one_none, one_more, one_value, one_nodes}
use Rattle.parser_items.proofs.verdicts.one_verdict.Goals as goal

pub returns-then-sorts-eq0 : goal.returns-then-sorts-eq0
returns-then-sorts-eq0 c = one_none c.args.sorts c.args.called c.requires.0 c.if-sorts-eq0.true

pub returns-then-sorts-gt5 : goal.returns-then-sorts-gt5
returns-then-sorts-gt5 c = one_more c.args.sorts c.args.called c.requires.0 c.if-sorts-gt5.true

pub returns-in-Length : goal.returns-in-Length
returns-in-Length c = one_value c.args.sorts c.in-Length.is c.if-sorts-eq0.false c.if-sorts-gt5.false c.value_verdict.ensures

pub returns-in_default : goal.returns-in_default
returns-in_default c = one_nodes c.args.sorts c.args.called c.requires.0 c.in_default.not-Length c.if-sorts-eq0.false c.if-sorts-gt5.false c.nodes_verdict.ensures
