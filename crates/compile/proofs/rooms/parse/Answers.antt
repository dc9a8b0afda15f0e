-- `compile::rooms::parse` meets its contract: a query is read from its first byte to its last.
use Rattle.std.proofs.lemmas.Result.{err_from_is_err_and}
use borrow.Author.Tests.{not-true, not-false}
use Rattle.parser_items.specs.Laws.{read_of, none_of, whole, asks_whole, post_whole}
use Rattle.compile.proofs.Answers.{no_root, root_start, no_segments, some_left, all_read}
use mathlib.Core.Path.{ap}
use mathlib.Core.Bool.{not}
use Rattle.compile.proofs.rooms.parse.Goals as goal

pub returns-then-not-is : goal.returns-then-not-is
returns-then-not-is c = no_root c.requires (rw (not-true c.is.result (ap not c.if-not-is.true)) at c.is.ensures)

pub query-requires : goal.query-requires
query-requires c = asks_whole (whole _) (root_start c.requires (rw (not-false c.is.result (ap not c.if-not-is.false)) at c.is.ensures))

pub returns-in_err-n : goal.returns-in_err-n
returns-in_err-n c = rw (err_from_is_err_and c.from_residual.result c.from_residual.ensures.1).1 (no_segments c.requires (rw (not-false c.is.result (ap not c.if-not-is.false)) at c.is.ensures) (none_of (post_whole (whole c.args.s.now) c.query.ensures) c.in_err-n.was))

pub returns-then-at-s : goal.returns-then-at-s
returns-then-at-s c = some_left c.requires (rw (not-false c.is.result (ap not c.if-not-is.false)) at c.is.ensures) (read_of (post_whole (whole _) c.query.ensures) c.in_ok-n.was) c.if-at-s.true

pub returns : goal.returns
returns c = all_read c.requires (rw (not-false c.is.result (ap not c.if-not-is.false)) at c.is.ensures) (read_of (post_whole (whole _) c.query.ensures) c.in_ok-n.was) c.if-at-s.false
