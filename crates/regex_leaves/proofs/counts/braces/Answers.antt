-- `regex_leaves::counts::braces` meets its contract.
use Rattle.regex_leaves.proofs.OfCounts.{braces_stop, braces_one, braces_two, braces_other}
use mathlib.Core.Path.{sym, ◌∙◌}
use Rattle.regex_leaves.proofs.counts.braces.Goals as goal

pub returns-in_err-b : goal.returns-in_err-b
returns-in_err-b c = rw c.from_residual.ensures (braces_stop _ _ c.in_err-b.ensures)

pub returns-then-is : goal.returns-then-is
returns-then-is c = braces_one _ _ c.in_ok-b.ensures (sym c.is.ensures.told ∙ c.if-is.true)

pub returns-then-is-2 : goal.returns-then-is-2
returns-then-is-2 c = braces_two _ _ c.in_ok-b.ensures (sym c.is.ensures.told ∙ c.if-is.false) (sym c.is-2.ensures.told ∙ c.if-is-2.true) c.upper.ensures

pub returns : goal.returns
returns c = braces_other _ _ c.in_ok-b.ensures (sym c.is.ensures.told ∙ c.if-is.false) (sym c.is-2.ensures.told ∙ c.if-is-2.false)
