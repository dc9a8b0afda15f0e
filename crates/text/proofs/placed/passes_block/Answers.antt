-- `text::placed::passes_block` meets its contract by one of two tests.
use borrow.Author.Tests.{not-false}
use mathlib.Core.Path.{ap}
use mathlib.Core.Bool.{not}
use Rattle.text.proofs.placed.passes_block.Goals as goal

pub returns-then-passes_as : goal.returns-then-passes_as
returns-then-passes_as c = c.passes_as.ensures c.if-passes_as.true

pub returns : goal.returns
returns c = c.passes_as-2.ensures (not-false _ (ap not c.if-not-passes_as.false))
