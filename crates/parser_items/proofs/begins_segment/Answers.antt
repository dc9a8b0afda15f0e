-- `parser_items::begins_segment` meets its contract: one of two bytes begins a segment.
--
use mathlib.Core.Path.{refl}
use Rattle.parser_items.proofs.Begins.{has_second}
use Rattle.parser_items.proofs.begins_segment.Goals as goal

pub returns-else-is : goal.returns-else-is
returns-else-is c = has_second c.args.s.now c.args.at 46 91 c.is-else-is.result refl (rw c.if-is.false at c.is.ensures) c.is-else-is.ensures
