-- `number_limbs::fill` meets its contract: the two stores put the number into a list that is 0.
use native.Mathlib.Omega.{arith}
use Rattle.number_limbs.proofs.Powers.{placed, placed_limbs}
use Rattle.number_limbs.proofs.fill.Goals as goal

pub returns : goal.returns
returns c = (placed c.args.x.now c.args.m c.requires.1 c.requires.2, placed_limbs c.args.x.now c.args.m c.requires.0 c.requires.2 (omega arith))
