-- The cursor as it was, or with keys that were found to differ.
use mathlib.Core.Path.{refl}
use borrow.Author.Tests.{not-false}
use Rattle.table.specs.Words.Surely.{as_before, found}
use borrow.Author.Rules.{rules}
use mathlib.Core.Path.{ap}
use mathlib.Core.Bool.{not}
use Rattle.table.proofs.scan.surely.Goals as goal

pub returns-then-not-all_differ : goal.returns-then-not-all_differ
returns-then-not-all_differ c = as_before refl

pub returns : goal.returns
returns c = found refl (c.all_differ.ensures (not-false _ (ap not c.if-not-all_differ.false)))
