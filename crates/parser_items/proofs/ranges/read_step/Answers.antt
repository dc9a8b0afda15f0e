-- `parser_items::ranges::read_step` meets its contract: a colon, and behind it an int or none.
--
use borrow.Author.Tests.{not-true, not-false}
use Rattle.parser_items.proofs.Ints.{given_of, absent_of}
use Rattle.parser_items.proofs.Slices.{step_none, step_colon, step_int}
use mathlib.Core.Path.{ap, sym, ◌∙◌}
use mathlib.Core.Bool.{not}
use Rattle.parser_items.proofs.ranges.read_step.Goals as goal

pub returns-then-not-is : goal.returns-then-not-is
returns-then-not-is c = step_none c.args.s.now c.args.at c.requires (rw (not-true c.is.result (ap not c.if-not-is.true)) at c.is.ensures)

pub skip_blanks-a-requires : goal.skip_blanks-a-requires
skip_blanks-a-requires c = (rw (not-false c.is.result (ap not c.if-not-is.false)) at c.is.ensures).0

pub returns-then-is_some : goal.returns-then-is_some
returns-then-is_some c = step_int c.args.s.now c.args.at (rw (not-false c.is.result (ap not c.if-not-is.false)) at c.is.ensures) c.skip_blanks-a.ensures (given_of c.read_int-p.ensures (sym c.is_some.ensures ∙ c.if-is_some.true))

pub returns : goal.returns
returns c = step_colon c.args.s.now c.args.at (rw (not-false c.is.result (ap not c.if-not-is.false)) at c.is.ensures) c.skip_blanks-a.ensures (absent_of c.read_int-p.ensures (sym c.is_some.ensures ∙ c.if-is_some.false))
