-- `parser_scan::read_word` meets its contract: a small letter begins a function name, and the run behind it goes on with it.
--
use mathlib.Core.Path.{sym, ◌∙◌}
use native.Mathlib.Omega.{arith}
use borrow.Author.Tests.{not-true, not-false}
use Rattle.parser_scan.specs.Text.{at, nothing}
use Rattle.parser_scan.proofs.Names.{no_word, no_word_end, word_at}
use mathlib.Core.Path.{ap}
use mathlib.Core.Bool.{not}
use Rattle.parser_scan.proofs.read_word.Goals as goal

pub returns-then-s-at : goal.returns-then-s-at
returns-then-s-at c = nothing (no_word_end c.args.s.now c.args.at c.if-s-at.true)

pub returns-then-not-between : goal.returns-then-not-between
returns-then-not-between c = nothing (no_word c.args.s.now c.args.at (omega arith) (sym c.between.ensures ∙ not-true c.between.result (ap not c.if-not-between.true)))

pub returns : goal.returns
returns c = at (word_at c.args.s.now c.args.at (omega arith) (sym c.between.ensures ∙ not-false c.between.result (ap not c.if-not-between.false)) c.word_end.ensures)
