-- `regex_leaves::counts::upper` meets its contract.
use Rattle.regex_leaves.proofs.OfCounts.{upper_none, upper_stop, upper_next, upper_other}
use mathlib.Core.Path.{sym, ◌∙◌}
use Rattle.regex_leaves.proofs.counts.upper.Goals as goal

pub returns-then-is : goal.returns-then-is
returns-then-is c = upper_none _ _ _ (sym c.is.ensures.told ∙ c.if-is.true)

pub returns-in_err-b : goal.returns-in_err-b
returns-in_err-b c = rw c.from_residual.ensures (upper_stop _ _ _ (sym c.is.ensures.told ∙ c.if-is.false) c.in_err-b.ensures)

pub returns-then-is-2 : goal.returns-then-is-2
returns-then-is-2 c = upper_next _ _ _ (sym c.is.ensures.told ∙ c.if-is.false) c.in_ok-b.ensures (sym c.is-2.ensures.told ∙ c.if-is-2.true)

pub returns : goal.returns
returns c = upper_other _ _ _ (sym c.is.ensures.told ∙ c.if-is.false) c.in_ok-b.ensures (sym c.is-2.ensures.told ∙ c.if-is-2.false)
