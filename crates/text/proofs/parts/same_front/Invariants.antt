-- `text::parts::same_front` meets its contract. The loop's invariant: what is left of the two texts stands as the whole texts do.
-- The measure is what is left of the shorter.
use mathlib.Core.Path.{◌≡◌}
use Prim.Native.Nat.{◌*◌}
use lib.ListN.{drop}
use Rattle.definition.specs.Bytes.{order_bytes}
use Rattle.text.proofs.parts.same_front.Given as goal

abbrev pub invariant-loop-k : goal.invariant-loop-k
invariant-loop-k l = order_bytes l.a l.b ≡ order_bytes (drop (8 * l.k) l.a) (drop (8 * l.k) l.b)
