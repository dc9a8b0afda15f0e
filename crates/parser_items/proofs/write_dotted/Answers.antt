-- `parser_items::write_dotted` meets its contract: a `*` or a name is read and written.
--
use Rattle.std.proofs.lemmas.Result.{err_from_is_err_and}
use native.Mathlib.Omega.{arith}
use Rattle.parser_items.proofs.Dotted.{dotted_wild, dotted_name, dotted_none, name_long}
use Rattle.parser_items.specs.Laws.{name_of, no_name_of, asks_room, put_room}
use Rattle.parser_items.proofs.write_dotted.Goals as goal

pub single-a-requires : goal.single-a-requires
single-a-requires c = asks_room 3 1 c.requires (rw c.if-is.true at c.is.ensures).0 (omega arith)

pub item-b-requires : goal.item-b-requires
item-b-requires c = put_room 1 c.single-a.ensures (asks_room 4 1 c.requires (rw c.if-is.true at c.is.ensures).0 (omega arith))

pub returns-then-is : goal.returns-then-is
returns-then-is c = dotted_wild c.args.kind c.requires (rw c.if-is.true at c.is.ensures) c.single-a.ensures c.item-b.ensures (c.moved.ensures.place, (c.moved.ensures.lengths, c.moved.ensures.marks))

pub overflow_sub-e : goal.overflow_sub-e
overflow_sub-e c = (name_of c.read_name.ensures c.in_ok-e.was).from

pub copy_part-requires : goal.copy_part-requires
copy_part-requires c = let n = name_of c.read_name.ensures c.in_ok-e.was in (omega (arith, n.from, n.to), omega (arith, n.from, n.to, c.requires.pool))

pub single-a-requires-2 : goal.single-a-requires-2
single-a-requires-2 c = let n = name_of c.read_name.ensures c.in_ok-e.was in asks_room 3 1 c.requires (omega (arith, name_long n, n.to)) (omega arith)

pub overflow_sub-e-2 : goal.overflow_sub-e-2
overflow_sub-e-2 c = (name_of c.read_name.ensures c.in_ok-e.was).from

pub pooled-b-requires : goal.pooled-b-requires
pooled-b-requires c = let n = name_of c.read_name.ensures c.in_ok-e.was in record { room = put_room 5 c.single-a-2.ensures (asks_room 8 1 c.requires (omega (arith, name_long n, n.to)) (omega arith)); n_bound = omega (arith, n.from, n.to, c.requires.pool, c.requires.small_pool, c.single-a-2.ensures.pool) }

pub returns-in_err-e : goal.returns-in_err-e
returns-in_err-e c = rw (err_from_is_err_and c.from_residual.result c.from_residual.ensures.1).1 (dotted_none c.args.kind c.requires (rw c.if-is.false at c.is.ensures) (no_name_of c.read_name.ensures c.in_err-e.was))

pub returns : goal.returns
returns c = dotted_name c.args.kind c.requires (rw c.if-is.false at c.is.ensures) (name_of c.read_name.ensures c.in_ok-e.was) c.copy_part.ensures c.single-a-2.ensures c.pooled-b.ensures (c.moved-2.ensures.place, (c.moved-2.ensures.lengths, c.moved-2.ensures.marks))
