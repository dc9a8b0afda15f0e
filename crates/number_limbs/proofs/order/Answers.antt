-- `number_limbs::order` meets its contract: the limbs above the place are the same.
use native.Mathlib.Omega.{arith}
use Rattle.number_limbs.proofs.Whole.{limb_decides}
use Rattle.number_limbs.proofs.order.Goals as goal

pub returns-in_default : goal.returns-in_default
returns-in_default c = limb_decides c.args.x.now c.args.y.now c.loop-i.i c.cmp.result c.requires.0 c.requires.1 c.loop-i-test.true (omega arith) (omega arith) c.loop-i.invariant c.cmp.ensures c.in_default.not-Equal
