-- `compile::rooms::verdict` meets its contract: the first refusal that the marks of a cursor come to.
use mathlib.Core.Path.{refl}
use borrow.Author.Tests.{le-leb, lt-leb}
use Rattle.compile.proofs.Answers.{refused_first, refused_late}
use Rattle.compile.proofs.rooms.verdict.Goals as goal

pub returns-then-first-ne0 : goal.returns-then-first-ne0
returns-then-first-ne0 c = refused_first c.args.st.marks c.if-first-ne0.true

pub returns-then-marks-lt-BEYOND : goal.returns-then-marks-lt-BEYOND
returns-then-marks-lt-BEYOND c = refused_late c.args.st.marks c.if-first-ne0.false (rw (lt-leb 256 c.args.st.marks c.if-marks-lt-BEYOND.true) refl)

pub returns-else-marks-lt-BEYOND : goal.returns-else-marks-lt-BEYOND
returns-else-marks-lt-BEYOND c = refused_late c.args.st.marks c.if-first-ne0.false (rw (le-leb 256 c.args.st.marks c.if-marks-lt-BEYOND.false) refl)
