-- `text::parts::same_words` meets its contract. The loop's invariant: what is left of the two texts is the same if and only if the whole texts are.
-- The measure is what is left; the last words decide.
use mathlib.Core.Path.{◌≡◌}
use Prim.Native.Nat.{◌*◌}
use lib.ListN.{drop}
use Rattle.definition.specs.Bytes.{same_bytes}
use Rattle.text.proofs.parts.same_words.Given as goal

abbrev pub invariant-loop-k : goal.invariant-loop-k
invariant-loop-k l = same_bytes l.a l.b ≡ same_bytes (drop (8 * l.k) l.a) (drop (8 * l.k) l.b)
