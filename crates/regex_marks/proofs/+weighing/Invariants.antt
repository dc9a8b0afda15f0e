-- The measures and invariants of the cycle of calls {weigh, weigh_counted, weigh_least, weigh_two}.
use Prim.Native.Nat.{◌+◌, ◌-◌, ◌*◌}
use lib.ListN.{length}
use Rattle.regex_marks.proofs.+weighing.Given as goal

abbrev pub decreases-weigh : goal.decreases-weigh
decreases-weigh l = 2 * (length l.code.now - l.at) + 1

abbrev pub decreases-weigh_counted : goal.decreases-weigh_counted
decreases-weigh_counted l = 2 * (length l.code.now - l.at)

abbrev pub decreases-weigh_least : goal.decreases-weigh_least
decreases-weigh_least l = 2 * (length l.code.now - l.at)

abbrev pub decreases-weigh_two : goal.decreases-weigh_two
decreases-weigh_two l = 2 * (length l.code.now - l.at)
