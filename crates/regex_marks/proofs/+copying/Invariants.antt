-- The measures and invariants of the cycle of calls {copies, counted, endless, least, shift, two}.
use Prim.Native.Nat.{◌+◌, ◌-◌, ◌*◌, ◌^◌}
use lib.ListN.{length}
use Rattle.regex_marks.proofs.+copying.Given as goal

abbrev pub decreases-copies : goal.decreases-copies
decreases-copies l = 2 ^ 70 * (length l.code.now - l.at) + l.hi + 1

abbrev pub decreases-counted : goal.decreases-counted
decreases-counted l = 2 ^ 70 * (length l.code.now - l.at)

abbrev pub decreases-endless : goal.decreases-endless
decreases-endless l = 2 ^ 70 * (length l.code.now - l.at) + l.lo + 2

abbrev pub decreases-least : goal.decreases-least
decreases-least l = 2 ^ 70 * (length l.code.now - l.at)

abbrev pub decreases-shift : goal.decreases-shift
decreases-shift l = 2 ^ 70 * (length l.code.now - l.at) + 1

abbrev pub decreases-two : goal.decreases-two
decreases-two l = 2 ^ 70 * (length l.code.now - l.at)
