-- `regex_chars::class_has` meets its contract.
use Rattle.regex_chars.proofs.Ranges.{class_short, class_hit}
use Rattle.regex_chars.proofs.class_has.Goals as goal

pub returns-then-code-at-lt3 : goal.returns-then-code-at-lt3
returns-then-code-at-lt3 c = class_short _ _ _ c.if-code-at-lt3.true

pub returns : goal.returns
returns c = class_hit _ _ _ c.wide-n.ensures.0 c.ranges_have-hit.ensures c.flip.ensures
