-- `compile::rooms::early_refusal` meets its contract: the refusals before the grammar, in their order.
use mathlib.Core.Path.{sym, ◌∙◌}
use borrow.Author.Tests.{not-true, not-false}
use Rattle.compile.proofs.Answers.{early_long, early_bytes, early_deep, early_none}
use mathlib.Core.Path.{ap}
use mathlib.Core.Bool.{not}
use Rattle.compile.proofs.rooms.early_refusal.Goals as goal

pub returns-then-query-gt-MAX_QUERY : goal.returns-then-query-gt-MAX_QUERY
returns-then-query-gt-MAX_QUERY c = early_long c.args.query.now c.if-query-gt-MAX_QUERY.true

pub returns-then-not-is_utf8 : goal.returns-then-not-is_utf8
returns-then-not-is_utf8 c = early_bytes c.args.query.now c.if-query-gt-MAX_QUERY.false (sym c.is_utf8.ensures ∙ not-true c.is_utf8.result (ap not c.if-not-is_utf8.true))

pub returns-then-too_deep : goal.returns-then-too_deep
returns-then-too_deep c = early_deep c.args.query.now c.if-query-gt-MAX_QUERY.false (sym c.is_utf8.ensures ∙ not-false c.is_utf8.result (ap not c.if-not-is_utf8.false)) (sym c.too_deep.ensures ∙ c.if-too_deep.true)

pub returns : goal.returns
returns c = early_none c.args.query.now c.if-query-gt-MAX_QUERY.false (sym c.is_utf8.ensures ∙ not-false c.is_utf8.result (ap not c.if-not-is_utf8.false)) (sym c.too_deep.ensures ∙ c.if-too_deep.false)
