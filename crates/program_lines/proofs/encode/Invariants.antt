-- The digits that are stored so far are those of the bytes so far.
use Rattle.std.proofs.Common.{ℕ, ◌≡◌, ◌<◌, length}
use Rattle.program_lines.proofs.Laws.{Digits}
use Rattle.program_lines.proofs.encode.Given as goal

abbrev pub invariant-loop-i : goal.invariant-loop-i
invariant-loop-i l = (length l.out ≡ length l.initial.out) × ((k : ℕ) → k < l.i → Digits l.s l.out k)
