-- `number_literals::scaled` meets its contract: each test is a side of the range.
use mathlib.Core.Path.{sym, ◌∙◌}
use Rattle.number_literals.proofs.Ranges.{wide_beyond, far_beyond}
use Rattle.number_literals.proofs.scaled.Goals as goal

pub returns-then-n-ge-LIMIT : goal.returns-then-n-ge-LIMIT
returns-then-n-ge-LIMIT c = sym (wide_beyond _ _ _ c.if-n-ge-LIMIT.true)

pub rounded-requires : goal.rounded-requires
rounded-requires c = (c.if-n-ge-LIMIT.false, sym c.exponent_right.ensures ∙ c.if-exponent_right.true)

pub returns : goal.returns
returns c = sym (far_beyond _ _ _ (sym c.exponent_right.ensures ∙ c.if-exponent_right.false))
