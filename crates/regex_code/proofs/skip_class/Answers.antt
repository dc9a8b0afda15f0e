-- The proof of `skip_class`.
use Rattle.regex_code.proofs.Laws.{class_short, class_behind}
use Rattle.regex_code.proofs.skip_class.Goals as goal

-- src/lib.rt:27:9
pub returns-then-code-at-le2 : goal.returns-then-code-at-le2
returns-then-code-at-le2 c = class_short _ _ c.requires c.if-code-at-le2.true

-- src/lib.rt:22:1
pub returns : goal.returns
returns c = rw c.wide-n.ensures.0 (class_behind _ _ c.requires)
