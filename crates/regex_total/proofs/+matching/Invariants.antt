-- The measures and invariants of the cycle of calls {both, cuts, matches, pair, row, times}.
use Prim.Native.Nat.{◌+◌, ◌-◌, ◌*◌, ◌^◌}
use lib.ListN.{length}
use Rattle.regex_total.proofs.Steps.{Tried}
use Rattle.regex_total.proofs.+matching.Given as goal

abbrev pub decreases-both : goal.decreases-both
decreases-both l = 2 ^ 70 * (length l.code.now - l.a) + 1

abbrev pub decreases-cuts : goal.decreases-cuts
decreases-cuts l = 2 ^ 70 * (length l.code.now - l.at) + 4 * (l.h + l.n - 1) + 3

abbrev pub decreases-matches : goal.decreases-matches
decreases-matches l = 2 ^ 70 * (length l.code.now - l.at)

abbrev pub decreases-pair : goal.decreases-pair
decreases-pair l = 2 ^ 70 * (length l.code.now - l.at) + 4 * (l.h + l.n - 1) + 2

abbrev pub decreases-row : goal.decreases-row
decreases-row l = 2 ^ 70 * (length l.code.now - l.a) + 2

abbrev pub decreases-times : goal.decreases-times
decreases-times l = 2 ^ 70 * (length l.code.now - l.at) + 4 * l.hi + 1

abbrev pub invariant-cuts-loop-i : goal.invariant-cuts-loop-i
invariant-cuts-loop-i l = Tried l.code l.text l.at l.l l.h l.at l.m l.n l.from l.to l.i

abbrev pub decreases-cuts-loop-i : goal.decreases-cuts-loop-i
decreases-cuts-loop-i l = l.to - l.i

abbrev pub invariant-row-loop-i : goal.invariant-row-loop-i
invariant-row-loop-i l = Tried l.code l.text l.a 1 1 l.b 1 1 l.from l.to l.i

abbrev pub decreases-row-loop-i : goal.decreases-row-loop-i
decreases-row-loop-i l = l.to - l.i
