-- `regex_states::has_empty` meets its contract.
use native.Mathlib.Omega.{arith}
use Prim.Native.Nat.{◌-◌}
use Rattle.regex_states.proofs.Writes.{empties, zeros_none, zeros_long}
use Rattle.regex_states.proofs.has_empty.Goals as goal

pub returns : goal.returns
returns c = empties (zeros_none 120 (c.args.n - 0)) (zeros_long 120 c.args.n (omega (arith, c.requires.few))) c.shift-p.ensures
