-- The exported select hands out what `select` answers.
use borrow.Author.Rules.{rules}
use Rattle.exports.proofs.Answers.{settled_as, run_handed}
use Rattle.exports.proofs.stewpebble_select.Goals as goal

pub returns : goal.returns
returns c = settled_as c.select-selection.ensures (run_handed c.tell.ensures.0 c.tell.ensures.1 c.tell.ensures.2 (c.of_select.ensures c.select-selection.new.list))
