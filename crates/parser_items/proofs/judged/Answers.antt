-- `parser_items::judged` meets its contract: the first verdict stands.
--
use mathlib.Core.Path.{refl, ap, ◌∙◌}
use Rattle.parser_items.specs.Reads.{marks_at}
use Rattle.parser_items.proofs.Marks.{judge_first, judge_kept}
use Rattle.parser_items.proofs.judged.Goals as goal

pub returns-then-marks-eq0 : goal.returns-then-marks-eq0
returns-then-marks-eq0 c = record { place = c.marked.ensures.place; marks = ap marks_at c.marked.ensures.marks ∙ judge_first c.args.st.marks c.args.verdict c.ranges.verdict.fits c.if-marks-eq0.true }

pub returns : goal.returns
returns c = record { place = (refl, refl, refl); marks = judge_kept c.args.st.marks c.args.verdict c.if-marks-eq0.false }
