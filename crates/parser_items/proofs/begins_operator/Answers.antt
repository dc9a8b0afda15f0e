-- `parser_items::begins_operator` meets its contract: the scanner looks for the operator.
--
use Rattle.parser_items.specs.Laws.{operates_of}
use Rattle.parser_items.proofs.begins_operator.Goals as goal

pub returns : goal.returns
returns c = rw c.is_some.ensures (operates_of c.read_operator.ensures)
