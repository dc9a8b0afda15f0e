-- The way that the byte is spelled decides, and says how much room there is.
use mathlib.Core.Path.{sym, ap}
use lib.ListN.{length}
use Rattle.table_path.proofs.Letters.{letter_spelled, self_spelled, digits_spelled}
use Rattle.table_path.proofs.Puts.{put_as, room_as}
use borrow.Author.Rules.{rules}
use Rattle.table_path.proofs.writing.put_escaped.Goals as goal

pub put_two-requires : goal.put_two-requires
put_two-requires c = room_as (ap length (sym (letter_spelled _ _ c.in-Some.ensures))) c.requires

pub returns-in-Some : goal.returns-in-Some
returns-in-Some c = put_as (letter_spelled _ _ c.in-Some.ensures) c.put_two.ensures

pub put_byte-requires : goal.put_byte-requires
put_byte-requires c = room_as (ap length (sym (self_spelled _ c.in_default.ensures c.if-b-ge32.true))) c.requires

pub returns-then-b-ge32 : goal.returns-then-b-ge32
returns-then-b-ge32 c = put_as (self_spelled _ c.in_default.ensures c.if-b-ge32.true) c.put_byte.ensures

pub put_control-requires : goal.put_control-requires
put_control-requires c = record { b_bound = c.if-b-ge32.false; room = room_as (ap length (sym (digits_spelled _ c.in_default.ensures c.if-b-ge32.false))) c.requires }

pub returns : goal.returns
returns c = put_as (digits_spelled _ c.in_default.ensures c.if-b-ge32.false) c.put_control.ensures
