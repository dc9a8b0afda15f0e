-- The digits that are left, behind the number so far, give the number.
use Rattle.std.proofs.Common.{◌≡◌, drop}
use Rattle.program_lines.specs.Words.{decimal}
use Rattle.program_lines.proofs.read_number.Given as goal

abbrev pub invariant-loop-b : goal.invariant-loop-b
invariant-loop-b l = decimal l.n (drop l.b-index l.word) ≡ decimal 0 l.word
