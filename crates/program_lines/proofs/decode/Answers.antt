-- The bytes so far are those of the pairs so far.
use Rattle.std.proofs.Common.{ℕ, ◌*◌, ◌+◌, get_or, arith}
use Rattle.program_lines.specs.Words.{Pair}
use Rattle.program_lines.proofs.Laws.{added_next}
use Rattle.program_lines.proofs.decode.Goals as goal

pub loop-i-preserved : goal.loop-i-preserved
loop-i-preserved c = (grind (arith), rw c.in_ok-push.ensures.items (added_next (λ (k v : ℕ). Pair (get_or c.args.word.now (2 * k) 0) (get_or c.args.word.now (2 * k + 1) 0) v) c.loop-i.bytes.items c.loop-i.i c.in_ok-pair.field-0 c.loop-i.invariant.0 c.loop-i.invariant.1 c.in_ok-pair.ensures))
