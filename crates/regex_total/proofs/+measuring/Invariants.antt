-- The measures and invariants of the cycle of calls {copied, in_a_row, looped, measure, one_of}.
use Prim.Native.Nat.{◌+◌, ◌-◌, ◌*◌}
use lib.ListN.{length}
use Rattle.regex_total.proofs.+measuring.Given as goal

abbrev pub decreases-copied : goal.decreases-copied
decreases-copied l = 2 * (length l.code.now - l.at)

abbrev pub decreases-in_a_row : goal.decreases-in_a_row
decreases-in_a_row l = 2 * (length l.code.now - l.at)

abbrev pub decreases-looped : goal.decreases-looped
decreases-looped l = 2 * (length l.code.now - l.at)

abbrev pub decreases-measure : goal.decreases-measure
decreases-measure l = 2 * (length l.code.now - l.at) + 1

abbrev pub decreases-one_of : goal.decreases-one_of
decreases-one_of l = 2 * (length l.code.now - l.at)
