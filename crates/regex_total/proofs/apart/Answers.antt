-- `regex_total::apart` meets its contract.
use Rattle.regex_total.proofs.Lengths.{apart_few, apart_none, apart_zero, apart_many}
use Rattle.regex_total.proofs.apart.Goals as goal

pub returns-then-n-least : goal.returns-then-n-least
returns-then-n-least c = apart_few _ _ _ _ _ c.if-least-gt0.true c.if-n-least.true

pub returns-then-n-eq0 : goal.returns-then-n-eq0
returns-then-n-eq0 c = apart_none _ _ _ _ _

pub returns-then-most-eq0 : goal.returns-then-most-eq0
returns-then-most-eq0 c = apart_zero _ _ _ _ _ c.if-n-eq0.false c.if-most-eq0.true

pub returns-then-most-lt2147483648 : goal.returns-then-most-lt2147483648
returns-then-most-lt2147483648 c = apart_many _ _ _ _ _ c.if-n-eq0.false c.if-most-eq0.false c.if-most-lt2147483648.true

pub returns : goal.returns
returns c = apart_none _ _ _ _ _
