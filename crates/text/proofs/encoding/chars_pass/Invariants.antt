-- `text::encoding::chars_pass` meets its contract. The loop's invariant: what is left is UTF-8 if and only if the whole text is.
-- The measure is what is left.
use mathlib.Core.Path.{◌≡◌}
use Prim.Native.Nat.{◌-◌, ◌≤◌}
use lib.ListN.{length, drop}
use Rattle.definition.specs.Utf8.{is_utf8}
use Rattle.text.proofs.encoding.chars_pass.Given as goal

abbrev pub invariant-loop-i : goal.invariant-loop-i
invariant-loop-i l = (l.i ≤ length l.s) × (is_utf8 l.s ≡ is_utf8 (drop l.i l.s))

abbrev pub decreases-loop-i : goal.decreases-loop-i
decreases-loop-i l = length l.s - l.i
