-- `regex_plain::open_ended` meets its contract.
use Rattle.regex_plain.proofs.Codes.{open_end_lem}
use Rattle.regex_plain.proofs.open_ended.Goals as goal

pub returns-then-code-b : goal.returns-then-code-b
returns-then-code-b c = λ e. open_end_lem _ c.if-code-lt5.false c.if-code-ne2.false c.skip-a.ensures c.if-code-a.false c.if-code-a-ne2.false c.skip-b.ensures c.if-code-b.true (c.free.ensures e)
