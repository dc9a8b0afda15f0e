-- The sum and the product fit, and what is left of the product has 32 bits.
use mathlib.Core.Path.{refl}
use native.Mathlib.Omega.{arith}
use borrow.Author.Rules.{rules}
use Rattle.table.specs.Buckets.{mixed}
use Rattle.table.proofs.buckets.mix.Goals as goal

pub returns : goal.returns
unfolding mixed
returns c = (refl, omega arith)
