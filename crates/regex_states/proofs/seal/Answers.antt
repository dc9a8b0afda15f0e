-- `regex_states::seal` meets its contract.
use native.Mathlib.Omega.{arith}
use lib.ListN.{length-set}
use Rattle.regex_states.proofs.Writes.{sealed}
use Rattle.regex_states.proofs.seal.Goals as goal

pub bounds-sets-k-2 : goal.bounds-sets-k-2
bounds-sets-k-2 c = simp length-set (omega (arith, c.requires))

pub bounds-sets-k-3 : goal.bounds-sets-k-3
bounds-sets-k-3 c = simp length-set (omega (arith, c.requires))

pub returns : goal.returns
returns c = sealed _ _ _ _ c.requires c.bit.ensures c.bit-2.ensures
