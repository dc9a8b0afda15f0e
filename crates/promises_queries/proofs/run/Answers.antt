-- The contract of `run` below leaves one outcome, since a plan and a pool spell one form at most.
use borrow.Author.Rules.{rules}
use Rattle.promises_stated.specs.Running.{runs_settled}
use Rattle.promises_queries.proofs.run.Goals as goal

pub returns : goal.returns
returns c = runs_settled c.run.ensures
