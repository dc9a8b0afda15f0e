-- `regex_needed::put` meets its contract.
use Rattle.regex_needed.proofs.Writing.{put_none, put_one}
use Rattle.regex_needed.proofs.put.Goals as goal

pub returns-then-out-to : goal.returns-then-out-to
returns-then-out-to c = put_none _ _ _ c.if-out-to.true c.requires

pub returns : goal.returns
returns c = put_one _ _ _ c.if-out-to.false
