-- `plan_items::text` meets its contract.
use Rattle.plan_items.proofs.Laws.{text_short, text_elsewhere, text_long, text_wrong, text_found}
use borrow.Author.Tests.{not-true, not-false}
use mathlib.Core.Path.{sym, ◌∙◌}
use mathlib.Core.Path.{ap}
use mathlib.Core.Bool.{not}
use Rattle.plan_items.proofs.text.Goals as goal

pub returns-then-plan-at-lt-POOLED_BODY : goal.returns-then-plan-at-lt-POOLED_BODY
returns-then-plan-at-lt-POOLED_BODY c = text_short c.requires c.args.sort c.if-plan-at-lt-POOLED_BODY.true

pub returns-then-start-p : goal.returns-then-start-p
returns-then-start-p c = text_elsewhere c.requires c.args.sort (λ i. (c.type_inv.plan i).fits) c.if-plan-at-lt-POOLED_BODY.false c.word16-start.ensures c.if-start-p.true

pub returns-then-pool-p : goal.returns-then-pool-p
returns-then-pool-p c = text_long c.requires c.args.sort (λ i. (c.type_inv.plan i).fits) c.if-plan-at-lt-POOLED_BODY.false c.word16-start.ensures c.word16-n.ensures c.if-pool-p.true

pub returns-then-not-is_utf8_part : goal.returns-then-not-is_utf8_part
returns-then-not-is_utf8_part c = text_wrong c.requires c.args.sort (λ i. (c.type_inv.plan i).fits) c.if-plan-at-lt-POOLED_BODY.false c.word16-start.ensures c.word16-n.ensures (sym c.is_utf8_part.ensures ∙ not-true c.is_utf8_part.result (ap not c.if-not-is_utf8_part.true))

pub returns : goal.returns
returns c = text_found c.requires c.args.sort (λ i. (c.type_inv.plan i).fits) c.if-plan-at-lt-POOLED_BODY.false c.word16-start.ensures c.word16-n.ensures c.if-start-p.false c.if-pool-p.false (sym c.is_utf8_part.ensures ∙ not-false c.is_utf8_part.result (ap not c.if-not-is_utf8_part.false))
