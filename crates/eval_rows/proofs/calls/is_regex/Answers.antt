-- `calls::is_regex` meets its contract.
use Rattle.eval_rows.specs.Calls.{regex_below, regex_from}
use Rattle.eval_rows.proofs.calls.is_regex.Goals as goal

pub returns-then-k-lt-MATCH : goal.returns-then-k-lt-MATCH
returns-then-k-lt-MATCH c = regex_below _ c.if-k-lt-MATCH.true

pub returns : goal.returns
returns c = regex_from _ c.if-k-lt-MATCH.false
