-- `text::encoding::continuing_few` meets its contract. The loop's invariant: what is counted are the bytes so far. The measure is what is left.
use mathlib.Core.Path.{◌≡◌}
use Rattle.definition.specs.Bytes.{part}
use Rattle.utf8_laws.specs.Scalars.{continuing}
use Rattle.text.proofs.encoding.continuing_few.Given as goal

abbrev pub invariant-loop-i : goal.invariant-loop-i
invariant-loop-i l = l.count ≡ continuing (part l.s l.at l.i)
