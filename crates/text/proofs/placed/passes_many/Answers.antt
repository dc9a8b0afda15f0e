-- `text::placed::passes_many` meets its contract by one of three tests.
use Rattle.text.proofs.placed.passes_many.Goals as goal

pub returns-then-ascii_many : goal.returns-then-ascii_many
returns-then-ascii_many c = λ _. c.ascii_many.ensures c.if-ascii_many.true

pub returns-then-plain_many : goal.returns-then-plain_many
returns-then-plain_many c = λ _. c.plain_many.ensures c.if-plain_many.true
