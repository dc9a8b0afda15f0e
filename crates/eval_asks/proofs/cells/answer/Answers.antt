-- `cells::answer` meets its contract.
use Rattle.eval_asks.specs.Cells.{answer_is}
use Rattle.eval_asks.proofs.cells.answer.Goals as goal

pub returns : goal.returns
returns c = answer_is _
