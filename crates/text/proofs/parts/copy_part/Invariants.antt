-- The first i bytes of the part are stored, and nothing else is changed.
use mathlib.Core.Path.{◌≡◌}
use lib.Seq.{sets}
use Rattle.definition.specs.Bytes.{part}
use Rattle.text.proofs.parts.copy_part.Given as goal

abbrev pub invariant-loop-i : goal.invariant-loop-i
invariant-loop-i l = l.dst ≡ sets l.initial.dst l.at (part l.src l.from l.i)
