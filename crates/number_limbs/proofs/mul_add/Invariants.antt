-- `number_limbs::mul_add` meets its contract: each turn multiplies one limb and carries on.
use Rattle.number_limbs.proofs.Steps.{Inv}
use Rattle.number_limbs.proofs.mul_add.Given as goal

abbrev pub invariant-loop-limb : goal.invariant-loop-limb
invariant-loop-limb l = Inv l.initial.x l.m l.c l.x l.carry l.limb-index
