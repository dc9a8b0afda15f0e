-- The measures and invariants of the cycle of calls {again, counted, either, grow, least, part, reach, wider}.
use Prim.Native.Nat.{◌+◌, ◌-◌, ◌*◌}
use lib.ListN.{length}
use Rattle.regex_places.specs.Places.{Left, rows, most, Row-left}
use Rattle.regex_places.proofs.+growing.Given as goal

abbrev pub decreases-again : goal.decreases-again
decreases-again l = 4 * (length l.code.now - l.at) + 4

abbrev pub decreases-counted : goal.decreases-counted
decreases-counted l = 4 * (length l.code.now - l.at) + 1

abbrev pub decreases-either : goal.decreases-either
decreases-either l = 4 * (length l.code.now - l.at) + 1

abbrev pub decreases-grow : goal.decreases-grow
decreases-grow l = 4 * (length l.code.now - l.at) + 5

abbrev pub decreases-least : goal.decreases-least
decreases-least l = 4 * (length l.code.now - l.at) + 1

abbrev pub decreases-part : goal.decreases-part
decreases-part l = 4 * (length l.code.now - l.at) + 2

abbrev pub decreases-reach : goal.decreases-reach
decreases-reach l = 4 * (length l.code.now - l.at) + 3

abbrev pub decreases-wider : goal.decreases-wider
decreases-wider l = 4 * (length l.code.now - l.at) + 4

abbrev pub invariant-again-loop : goal.invariant-again-loop
invariant-again-loop l = Left l.code l.at l.text (rows (l.n - l.counter)) (rows l.n) l.initial.set l.set

abbrev pub invariant-grow-loop : goal.invariant-grow-loop
invariant-grow-loop l = Left l.code l.at l.text (most (l.n - l.counter)) (most l.n) l.initial.set l.set

abbrev pub invariant-reach-loop-set : goal.invariant-reach-loop-set
invariant-reach-loop-set l = Row-left l.code l.at l.p l.text l.initial.set l.set

abbrev pub decreases-reach-loop-set : goal.decreases-reach-loop-set
decreases-reach-loop-set l = length l.code - l.p
