-- `text::parts::order_bytes` meets its contract. The loop's invariant: what is left of the two texts stands as the whole texts do.
use mathlib.Core.Path.{◌≡◌}
use lib.ListN.{drop}
use Rattle.definition.specs.Bytes.{order_bytes}
use Rattle.text.proofs.parts.order_bytes.Given as goal

abbrev pub invariant-loop-i : goal.invariant-loop-i
invariant-loop-i l = order_bytes l.a l.b ≡ order_bytes (drop l.i l.a) (drop l.i l.b)
