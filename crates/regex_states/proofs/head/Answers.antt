-- `regex_states::head` meets its contract.
use native.Mathlib.Omega.{arith}
use lib.ListN.{length-set}
use Rattle.regex_states.proofs.Writes.{headed}
use Rattle.regex_states.proofs.head.Goals as goal

pub bounds-sets-1 : goal.bounds-sets-1
bounds-sets-1 c = simp length-set (omega (arith, c.requires.1))

pub bounds-sets-2 : goal.bounds-sets-2
bounds-sets-2 c = simp length-set (omega (arith, c.requires.1))

pub bounds-sets-3 : goal.bounds-sets-3
bounds-sets-3 c = simp length-set (omega (arith, c.requires.1))

pub returns : goal.returns
returns c = headed _ _ _ _ c.requires.1 c.bit.ensures c.bit-2.ensures
