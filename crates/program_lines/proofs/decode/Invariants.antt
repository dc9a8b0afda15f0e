-- The bytes so far are those of the pairs so far.
use Rattle.std.proofs.Common.{ℕ, ◌≡◌, ◌*◌, ◌+◌, ◌<◌, length, get_or}
use Rattle.program_lines.specs.Words.{Pair}
use Rattle.program_lines.proofs.decode.Given as goal

abbrev pub invariant-loop-i : goal.invariant-loop-i
invariant-loop-i l = (length l.bytes.items ≡ l.i) × ((k : ℕ) → k < l.i → Pair (get_or l.word (2 * k) 0) (get_or l.word (2 * k + 1) 0) (get_or l.bytes.items k 0))
