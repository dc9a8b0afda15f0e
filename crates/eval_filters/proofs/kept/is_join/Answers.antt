-- `is_join` meets its contract.
use Rattle.eval_filters.specs.Keeps.{join_below, join_from}
use Rattle.eval_filters.proofs.kept.is_join.Goals as goal

pub returns-then-k-lt-AND : goal.returns-then-k-lt-AND
returns-then-k-lt-AND c = join_below _ c.if-k-lt-AND.true

pub returns : goal.returns
returns c = join_from _ c.if-k-lt-AND.false
