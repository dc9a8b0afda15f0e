-- A letter, the byte itself, or four digits.
use mathlib.Core.Path.{sym, ap}
use lib.ListN.{length}
use Rattle.table_path.proofs.Letters.{some_spelled, none_is, self_spelled, digits_spelled}
use borrow.Author.Rules.{rules}
use Rattle.table_path.proofs.escapes.byte_length.Goals as goal

pub returns-then-is_some : goal.returns-then-is_some
returns-then-is_some c = some_spelled _ c.letter_of.result c.letter_of.ensures (sym c.if-is_some.ensures)

pub returns-then-b-ge32 : goal.returns-then-b-ge32
returns-then-b-ge32 c = ap length (self_spelled _ (none_is _ c.letter_of.result c.letter_of.ensures (sym c.if-is_some.ensures)) c.if-b-ge32.true)

pub returns : goal.returns
returns c = ap length (digits_spelled _ (none_is _ c.letter_of.result c.letter_of.ensures (sym c.if-is_some.ensures)) c.if-b-ge32.false)
