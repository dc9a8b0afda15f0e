-- `text::placed::passes_short` meets its contract.
use mathlib.Core.Bool.{false≢true}
use Rattle.text.proofs.placed.passes_short.Goals as goal

pub returns-then-n-eq-MANY : goal.returns-then-n-eq-MANY
returns-then-n-eq-MANY c = λ z. rw c.if-n-eq-MANY.true (c.passes_many.ensures z)

pub returns-then-n-eq-FEW : goal.returns-then-n-eq-FEW
returns-then-n-eq-FEW c = λ z. rw c.if-n-eq-FEW.true (c.placed_few.ensures z)

pub returns : goal.returns
returns c = λ z. absurd (false≢true z)
