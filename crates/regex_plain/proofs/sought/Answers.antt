-- `regex_plain::sought` meets its contract.
use borrow.Author.Tests.{not-false}
use mathlib.Core.Path.{ap}
use mathlib.Core.Bool.{not}
use Rattle.regex_plain.proofs.Codes.{sought_row}
use Rattle.regex_plain.proofs.sought.Goals as goal

pub returns : goal.returns
returns c = sought_row _ c.if-code-lt12.false c.if-code-ne2.false (c.free.ensures (not-false c.free.result (ap not c.if-not-free.false))) c.if-code-ne2-2.false c.in_ok-p.ensures c.if-code-p-ne5.false (c.free-else-code-p-ne5.ensures (not-false c.free-else-code-p-ne5.result (ap not c.if-not-free-2.false)))
