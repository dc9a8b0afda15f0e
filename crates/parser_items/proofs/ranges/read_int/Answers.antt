-- `parser_items::ranges::read_int` meets its contract: the answer of the reader of ints is held as a piece.
--
use Rattle.parser_items.proofs.Ints.{next_of, out_of, nothing_of, there_next, there_out, there_none}
use Rattle.parser_items.proofs.ranges.read_int.Goals as goal

pub skip_blanks-requires : goal.skip_blanks-requires
skip_blanks-requires c = (out_of c.parse_i_json_int.ensures (rw c.in-Err-OutOfRange.field-0-is at c.in-Err-OutOfRange.is)).1.to

pub skip_blanks-requires-in-Ok : goal.skip_blanks-requires-in-Ok
skip_blanks-requires-in-Ok c = (next_of c.parse_i_json_int.ensures c.in-Ok.is).1.to

pub returns-in-Err-Nothing : goal.returns-in-Err-Nothing
returns-in-Err-Nothing c = there_none c.args.s.now c.args.at (nothing_of c.parse_i_json_int.ensures (rw c.in-Err-Nothing.field-0-is at c.in-Err-Nothing.is))

pub returns-in-Err-OutOfRange : goal.returns-in-Err-OutOfRange
returns-in-Err-OutOfRange c = there_out (out_of c.parse_i_json_int.ensures (rw c.in-Err-OutOfRange.field-0-is at c.in-Err-OutOfRange.is)) c.skip_blanks.ensures

pub returns-in-Ok : goal.returns-in-Ok
returns-in-Ok c = there_next (next_of c.parse_i_json_int.ensures c.in-Ok.is) c.skip_blanks-in-Ok.ensures c.bits64.ensures
