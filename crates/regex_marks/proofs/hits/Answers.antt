-- `regex_marks::hits` meets its contract.
use Rattle.regex_marks.proofs.Runs.{is_entered, not_entered}
use Rattle.regex_marks.specs.Runs.{Entered}
use mathlib.Core.Path.{subst, sym}
use Rattle.regex_marks.proofs.hits.Goals as goal

pub returns-then-enter : goal.returns-then-enter
returns-then-enter c = is_entered c.if-enter.true c.class_has.ensures

pub returns-else-enter : goal.returns-else-enter
returns-else-enter c = subst (λ b. Entered c.args.code.now c.args.at c.args.enter c.args.c b) (sym c.if-enter.false) (not_entered c.if-enter.false)
