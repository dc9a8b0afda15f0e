-- The measures and invariants of the cycle of calls {skip}.
use Prim.Native.Nat.{◌-◌}
use lib.ListN.{length}
use Rattle.regex_code.proofs.+skip.Given as goal

abbrev pub decreases-skip : goal.decreases-skip
decreases-skip l = length l.code.now - l.at
