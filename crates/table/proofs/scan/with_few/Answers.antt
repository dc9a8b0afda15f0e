-- Before the first node every head is 0.
use mathlib.Core.Path.{sym, ◌∙◌}
use lib.Dec.{lit<}
use Rattle.table.proofs.Front.{front_zeros}
use Rattle.table.proofs.Kept.{roomy_nodes}
use borrow.Author.Rules.{rules}
use Rattle.table.proofs.scan.with_few.Goals as goal

pub rest-requires : goal.rest-requires
rest-requires c = record { start_value = (c.requires.start_value.0 ∙ sym c.requires.table_nonzero.2.first_is, front_zeros 128 128 (lit< tt) c.args.table.now c.args.text.now (roomy_nodes c.args.table.now 128 c.requires.table_bound) c.args.root c.args.from c.requires.start_value.1 c.requires.start_value.2 c.requires.table_nonzero.2); table_nonzero = (c.requires.table_nonzero.0, c.requires.table_nonzero.1, c.requires.table_nonzero.2.right); known = c.requires.known }
