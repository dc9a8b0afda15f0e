-- `regex_leaves::counts::quantifier` meets its contract.
use Rattle.regex_leaves.proofs.OfCounts.{star, plus, option, counted, once}
use mathlib.Core.Path.{sym, ◌∙◌}
use Rattle.regex_leaves.proofs.counts.quantifier.Goals as goal

pub returns-then-is : goal.returns-then-is
returns-then-is c = star _ _ (sym c.is.ensures.told ∙ c.if-is.true)

pub returns-then-is-2 : goal.returns-then-is-2
returns-then-is-2 c = plus _ _ (sym c.is.ensures.told ∙ c.if-is.false) (sym c.is-2.ensures.told ∙ c.if-is-2.true)

pub returns-then-is-3 : goal.returns-then-is-3
returns-then-is-3 c = option _ _ (sym c.is.ensures.told ∙ c.if-is.false) (sym c.is-2.ensures.told ∙ c.if-is-2.false) (sym c.is-3.ensures.told ∙ c.if-is-3.true)

pub returns-then-is-4 : goal.returns-then-is-4
returns-then-is-4 c = counted _ _ (sym c.is.ensures.told ∙ c.if-is.false) (sym c.is-2.ensures.told ∙ c.if-is-2.false) (sym c.is-3.ensures.told ∙ c.if-is-3.false) (sym c.is-4.ensures.told ∙ c.if-is-4.true) c.braces.ensures

pub returns : goal.returns
returns c = once _ _ (sym c.is.ensures.told ∙ c.if-is.false) (sym c.is-2.ensures.told ∙ c.if-is-2.false) (sym c.is-3.ensures.told ∙ c.if-is-3.false) (sym c.is-4.ensures.told ∙ c.if-is-4.false)
