-- `text::placed::passes_step` meets its contract.
use Rattle.text.proofs.placed.passes_step.Goals as goal

pub returns-then-ascii_most : goal.returns-then-ascii_most
returns-then-ascii_most c = rw c.if-n-ne-MOST.false (c.ascii_most.ensures c.if-ascii_most.true)
