-- `text::placed::plain_many` meets its contract. The loop's invariant: while the answer is yes, the bytes that were tested have no bounds of their own.
use mathlib.Core.Path.{◌≡◌}
use mathlib.Core.Bool.{true}
use Rattle.text.proofs.Along.{PlainIn}
use Rattle.text.proofs.placed.plain_many.Given as goal

abbrev pub invariant-loop-i : goal.invariant-loop-i
invariant-loop-i l = l.right ≡ true → PlainIn l.s l.at l.i
