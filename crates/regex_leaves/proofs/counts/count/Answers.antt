-- `regex_leaves::counts::count` meets its contract.
use Rattle.regex_leaves.proofs.OfCounts.{count_none, count_some}
use mathlib.Core.Path.{sym, ◌∙◌}
use Rattle.regex_leaves.proofs.counts.count.Goals as goal

pub returns-then-digit_at : goal.returns-then-digit_at
returns-then-digit_at c = count_some _ _ (sym c.digit_at.ensures ∙ c.if-digit_at.true) c.digits.ensures

pub returns-else-digit_at : goal.returns-else-digit_at
returns-else-digit_at c = count_none _ _ (sym c.digit_at.ensures ∙ c.if-digit_at.false)
