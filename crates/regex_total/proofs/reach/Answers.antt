-- `regex_total::reach` meets its contract.
use Rattle.regex_total.proofs.Lengths.{reach_any, reach_one}
use Rattle.regex_total.proofs.reach.Goals as goal

pub returns-then-code-at-lt5 : goal.returns-then-code-at-lt5
returns-then-code-at-lt5 c = reach_any _ _

pub returns : goal.returns
returns c = reach_one _ _ c.if-code-at-eq1.false c.if-code-at-ne1.false c.if-code-at-ge128.false
