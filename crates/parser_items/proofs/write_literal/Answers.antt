-- `parser_items::write_literal` meets its contract: a quote begins a text, and anything else is read as a number.
--
use Rattle.std.proofs.lemmas.Result.{err_from_is_err_and}
use mathlib.Core.Path.{refl}
use native.Mathlib.Omega.{arith}
use Rattle.text_quoted.specs.Laws.{own_of_quote}
use mathlib.Core.Logic.{inl, inr}
use Rattle.parser_items.specs.Laws.{asks_room}
use Rattle.parser_items.proofs.Numerals.{number_of, no_number_of, constant_none, constant_number, constant_text}
use Rattle.parser_items.proofs.write_literal.Goals as goal

pub write_text-requires : goal.write_text-requires
write_text-requires c = record { asks = c.requires; quote_value = own_of_quote 34 (inl refl); is = rw c.if-is.true at c.is.ensures }

pub returns-then-is : goal.returns-then-is
returns-then-is c = constant_text c.args.st 34 refl (rw c.if-is.true at c.is.ensures) c.write_text.ensures

pub write_text-requires-then-is-2 : goal.write_text-requires-then-is-2
write_text-requires-then-is-2 c = record { asks = c.requires; quote_value = own_of_quote 39 (inr refl); is = rw c.if-is-2.true at c.is-2.ensures }

pub returns-then-is-2 : goal.returns-then-is-2
returns-then-is-2 c = constant_text c.args.st 39 refl (rw c.if-is-2.true at c.is-2.ensures) c.write_text-then-is-2.ensures

pub put_numeral-a-requires : goal.put_numeral-a-requires
put_numeral-a-requires c = let n = number_of c.parse_number.ensures c.in_ok-number.was in asks_room 9 1 c.requires (omega (arith, n.from, n.to)) (omega arith)

pub returns-in_err-number : goal.returns-in_err-number
returns-in_err-number c = rw (err_from_is_err_and c.from_residual.result c.from_residual.ensures.1).1 (constant_none c.args.st (rw c.if-is.false at c.is.ensures) (rw c.if-is-2.false at c.is-2.ensures) (no_number_of c.parse_number.ensures c.in_err-number.was))

pub returns : goal.returns
returns c = constant_number c.args.st (rw c.if-is.false at c.is.ensures) (rw c.if-is-2.false at c.is-2.ensures) (number_of c.parse_number.ensures c.in_ok-number.was) c.requires.utf8 (c.put_numeral-a.ensures c.args.pool.now) (c.moved.ensures.place, (c.moved.ensures.lengths, c.moved.ensures.marks))
