-- `text::encoding::ascii_words` meets its contract. The loop's invariant: the bytes that were looked at are ASCII. The measure is what is left.
use mathlib.Core.Path.{◌≡◌}
use mathlib.Core.Bool.{true}
use Prim.Native.Nat.{◌*◌}
use lib.ListN.{take}
use Rattle.definition.specs.Bytes.{every}
use Rattle.text.specs.Chars.{is_ascii}
use Rattle.text.proofs.encoding.ascii_words.Given as goal

abbrev pub invariant-loop-k : goal.invariant-loop-k
invariant-loop-k l = every is_ascii (take (8 * l.k) l.s) ≡ true
