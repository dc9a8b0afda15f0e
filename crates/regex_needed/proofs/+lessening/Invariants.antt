-- The measures and invariants of the cycle of calls {least, lessen, pair, plain}.
use Prim.Native.Nat.{◌+◌, ◌-◌, ◌*◌}
use lib.ListN.{length}
use Rattle.regex_needed.proofs.+lessening.Given as goal

abbrev pub decreases-least : goal.decreases-least
decreases-least l = 4 * (length l.code.now - l.at)

abbrev pub decreases-lessen : goal.decreases-lessen
decreases-lessen l = 4 * (length l.code.now - l.at) + 2

abbrev pub decreases-pair : goal.decreases-pair
decreases-pair l = 4 * (length l.code.now - l.at)

abbrev pub decreases-plain : goal.decreases-plain
decreases-plain l = 4 * (length l.code.now - l.at) + 1
