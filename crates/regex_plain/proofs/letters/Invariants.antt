-- `regex_plain::letters` meets its contract.
use Rattle.regex_plain.specs.Rows.{Spelt}
use lib.ListN.{length}
use Prim.Native.Nat.{◌-◌}
use Rattle.regex_plain.proofs.letters.Given as goal

abbrev pub invariant-loop-n : goal.invariant-loop-n
invariant-loop-n l = Spelt l.code l.at l.n l.i

abbrev pub decreases-loop-n : goal.decreases-loop-n
decreases-loop-n l = length l.code - l.i
