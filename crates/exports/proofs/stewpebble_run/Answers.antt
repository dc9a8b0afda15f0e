-- The exported run hands out what `run` answers.
use borrow.Author.Rules.{rules}
use Rattle.exports.proofs.Answers.{settled_as, run_handed}
use Rattle.exports.proofs.stewpebble_run.Goals as goal

pub returns : goal.returns
returns c = settled_as c.run-ran.ensures (run_handed c.tell.ensures.0 c.tell.ensures.1 c.tell.ensures.2 (c.of_run.ensures c.run-ran.new.list))
