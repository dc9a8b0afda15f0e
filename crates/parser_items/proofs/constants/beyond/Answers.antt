-- `parser_items::constants::beyond` meets its contract: one mark is set.
--
use mathlib.Core.Path.{refl, ap, ◌∙◌}
use Rattle.parser_items.specs.Reads.{marks_at}
use Rattle.parser_items.proofs.Marks.{beyond_first, beyond_kept}
use Rattle.parser_items.proofs.constants.beyond.Goals as goal

pub returns-then-marks-lt-BEYOND : goal.returns-then-marks-lt-BEYOND
returns-then-marks-lt-BEYOND c = record { place = c.marked.ensures.place; marks = ap marks_at c.marked.ensures.marks ∙ beyond_first c.args.st.marks c.if-marks-lt-BEYOND.true }

pub returns : goal.returns
returns c = record { place = (refl, refl, refl); marks = beyond_kept c.args.st.marks c.if-marks-lt-BEYOND.false }
