-- `text::encoding::continuing_words` meets its contract. The loop's invariant: what is counted are the words so far. The measure is what is left.
use mathlib.Core.Path.{◌≡◌}
use Prim.Native.Nat.{◌*◌}
use Rattle.definition.specs.Bytes.{part}
use Rattle.utf8_laws.specs.Scalars.{continuing}
use Rattle.text.proofs.encoding.continuing_words.Given as goal

abbrev pub invariant-loop-k : goal.invariant-loop-k
invariant-loop-k l = l.count ≡ continuing (part l.s l.at (8 * 31 * l.k))
