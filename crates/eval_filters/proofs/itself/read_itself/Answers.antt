-- `read_itself` meets its contract: each test that it passes says a part.
use Rattle.eval_filters.specs.Itself.{itself_at}
use Rattle.eval_filters.proofs.itself.read_itself.Goals as goal

pub returns-in_err-b : goal.returns-in_err-b
returns-in_err-b c = rw c.from_residual.ensures tt

pub returns : goal.returns
returns c = itself_at c.if-plan-p-ne-CURRENT.false c.if-plan-p-ne-END.false c.in_ok-b.ensures c.if-b-z.false c.form_of.ensures
