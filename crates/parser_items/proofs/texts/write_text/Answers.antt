-- `parser_items::texts::write_text` meets its contract: the characters are read into the pool, and the item is put.
--
use Rattle.std.proofs.lemmas.Result.{err_from_is_err_and}
use native.Mathlib.Omega.{arith}
use Rattle.parser_items.specs.Laws.{asks_room}
use Rattle.parser_items.proofs.Quotes.{text_opened, text_none, text_done, done_of, bad_of}
use Rattle.parser_items.proofs.texts.write_text.Goals as goal

pub unescape_string-requires : goal.unescape_string-requires
unescape_string-requires c = text_opened c.args.quote c.args.kind c.args.told c.requires.asks c.requires.quote_value c.requires.is

pub overflow_sub-text : goal.overflow_sub-text
overflow_sub-text c = omega (arith, (done_of c.unescape_string.ensures c.in_ok-text.was).grown)

pub pooled-a-requires : goal.pooled-a-requires
pooled-a-requires c =
    let u = done_of c.unescape_string.ensures c.in_ok-text.was in
    record { room = asks_room 5 1 c.requires.asks c.requires.is.0 (omega arith); n_bound = omega (arith, u.grown, u.short, u.to, u.from, c.requires.asks.pool, c.requires.asks.small_pool, c.requires.is.0) }

pub returns-in_err-text : goal.returns-in_err-text
returns-in_err-text c = rw (err_from_is_err_and c.from_residual.result c.from_residual.ensures.1).1 (text_none c.args.quote c.args.kind c.args.told c.requires.asks c.requires.quote_value c.requires.is (bad_of c.unescape_string.ensures c.in_err-text.was).reads)

pub returns : goal.returns
returns c = text_done c.args.quote c.args.kind c.args.told c.requires.asks c.requires.quote_value c.requires.is (done_of c.unescape_string.ensures c.in_ok-text.was) c.pooled-a.ensures (c.moved.ensures.place, (c.moved.ensures.lengths, c.moved.ensures.marks))
