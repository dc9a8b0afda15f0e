-- `parser_scan::read_name` meets its contract: the first byte decides whether a name begins, and the run behind it goes on with it.
--
use mathlib.Core.Path.{sym, ◌∙◌}
use native.Mathlib.Omega.{arith}
use borrow.Author.Tests.{not-true, not-false}
use Rattle.parser_scan.specs.Text.{at, nothing}
use Rattle.parser_scan.proofs.Names.{no_name_digit, no_name_other, no_name_end, name_at}
use mathlib.Core.Path.{ap}
use mathlib.Core.Bool.{not}
use Rattle.parser_scan.proofs.read_name.Goals as goal

pub returns-then-s-at : goal.returns-then-s-at
returns-then-s-at c = nothing (no_name_end c.args.s.now c.args.at c.if-s-at.true)

pub returns-then-between : goal.returns-then-between
returns-then-between c = nothing (no_name_digit c.args.s.now c.args.at (omega arith) (sym c.between.ensures ∙ c.if-between.true))

pub returns-then-not-is_name_byte : goal.returns-then-not-is_name_byte
returns-then-not-is_name_byte c = nothing (no_name_other c.args.s.now c.args.at (omega arith) (sym c.is_name_byte.ensures ∙ not-true c.is_name_byte.result (ap not c.if-not-is_name_byte.true)))

pub returns : goal.returns
returns c = at (name_at c.args.s.now c.args.at c.requires.1 (omega arith) (sym c.between.ensures ∙ c.if-between.false) (sym c.is_name_byte.ensures ∙ not-false c.is_name_byte.result (ap not c.if-not-is_name_byte.false)) c.name_end.ensures)
