-- `text::brackets::too_deep` meets its contract: too few bytes that open are never too deep.
use mathlib.Core.Path.{sym}
use native.Mathlib.Omega.{arith}
use Rattle.definition.specs.Brackets.{too_deep}
use Rattle.definition.specs.Brackets.Place.{outside}
use Rattle.text.proofs.Counts.{deep_few}
use Rattle.text.proofs.brackets.too_deep.Goals as goal

pub returns-then-opening-le-MAX_BRACKETS : goal.returns-then-opening-le-MAX_BRACKETS
unfolding too_deep
returns-then-opening-le-MAX_BRACKETS c = sym (deep_few outside 0 c.args.s.now (omega (arith, c.opening.ensures)))
