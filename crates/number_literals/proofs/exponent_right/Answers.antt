-- `number_literals::exponent_right` meets its contract: each sign has its own limit.
use mathlib.Core.Path.{refl, sym}
use Rattle.number_literals.proofs.Ranges.{low_exponent}
use Rattle.number_literals.proofs.exponent_right.Goals as goal

pub returns-then-low : goal.returns-then-low
returns-then-low c = rw c.if-low.true (sym (low_exponent c.args.k))

pub returns : goal.returns
returns c = rw c.if-low.false refl
