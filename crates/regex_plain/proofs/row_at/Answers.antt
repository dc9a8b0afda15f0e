-- `regex_plain::row_at` meets its contract.
use Rattle.regex_plain.proofs.Codes.{row_end}
use Rattle.regex_plain.proofs.row_at.Goals as goal

pub returns : goal.returns
returns c = row_end _ c.letters-r.ensures c.if-code-r.false c.if-code-r-ne0.false
