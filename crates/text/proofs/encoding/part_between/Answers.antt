-- `text::encoding::part_between` meets its contract: an empty part is UTF-8, and another one by its two ends.
use native.Mathlib.Omega.{arith}
use mathlib.Core.Path.{sym, ◌∙◌}
use borrow.Author.Tests.{not-true, not-false}
use Rattle.text.proofs.Between.{part_none, part_begins, part_ends}
use mathlib.Core.Path.{ap}
use mathlib.Core.Bool.{not}
use Rattle.text.proofs.encoding.part_between.Goals as goal

pub returns-then-start-end : goal.returns-then-start-end
returns-then-start-end c = sym (part_none c.args.s.now c.args.start c.args.end c.if-start-end.true)

pub returns-then-not-is_between : goal.returns-then-not-is_between
returns-then-not-is_between c = sym (part_begins c.args.s.now c.args.start c.args.end c.requires.0 (omega arith) (sym c.is_between.ensures ∙ not-true _ (ap not c.if-not-is_between.true)))

pub returns : goal.returns
returns c = c.is_between-2.ensures ∙ sym (part_ends c.args.s.now c.args.start c.args.end c.requires.0 (omega arith) (sym c.is_between.ensures ∙ not-false _ (ap not c.if-not-is_between.false)))
