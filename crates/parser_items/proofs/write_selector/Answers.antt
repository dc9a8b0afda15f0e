-- `parser_items::write_selector` meets its contract: the first byte decides what is read.
--
use mathlib.Core.Path.{refl}
use native.Mathlib.Omega.{arith}
use Rattle.text_quoted.specs.Laws.{own_of_quote}
use mathlib.Core.Logic.{inl, inr}
use Rattle.parser_items.specs.Laws.{asks_less, asks_room}
use Rattle.parser_items.proofs.Selecting.{selector_text, selector_wild}
use Rattle.parser_items.proofs.write_selector.Goals as goal

pub write_text-requires : goal.write_text-requires
write_text-requires c = record { asks = asks_less (omega arith) c.requires; quote_value = own_of_quote 34 (inl refl); is = rw c.if-is.true at c.is.ensures }

pub returns-then-is : goal.returns-then-is
returns-then-is c = selector_text c.args.st 34 refl refl refl (rw c.if-is.true at c.is.ensures) c.write_text.ensures

pub write_text-requires-then-is-2 : goal.write_text-requires-then-is-2
write_text-requires-then-is-2 c = record { asks = asks_less (omega arith) c.requires; quote_value = own_of_quote 39 (inr refl); is = rw c.if-is-2.true at c.is-2.ensures }

pub returns-then-is-2 : goal.returns-then-is-2
returns-then-is-2 c = selector_text c.args.st 39 refl refl refl (rw c.if-is-2.true at c.is-2.ensures) c.write_text-then-is-2.ensures

pub item-a-requires : goal.item-a-requires
item-a-requires c = asks_room 1 1 c.requires (rw c.if-is-3.true at c.is-3.ensures).0 (omega arith)

pub returns-then-is-3 : goal.returns-then-is-3
returns-then-is-3 c = selector_wild c.args.st c.requires.utf8 (rw c.if-is.false at c.is.ensures) (rw c.if-is-2.false at c.is-2.ensures) (rw c.if-is-3.true at c.is-3.ensures) c.item-a.ensures (c.moved.ensures.place, (c.moved.ensures.lengths, c.moved.ensures.marks))

pub write_range-requires : goal.write_range-requires
write_range-requires c = record { at_in_bounds = (c.requires.text, c.requires.plan); s_value = c.requires.utf8; no_text = record { double = rw c.if-is.false at c.is.ensures; single = rw c.if-is-2.false at c.is-2.ensures; star = rw c.if-is-3.false at c.is-3.ensures } }

pub returns : goal.returns
returns c = c.write_range.ensures c.args.pool.now
