-- `regex_marks::passes::pack` meets its contract.
use Rattle.regex_marks.proofs.Words.{packed}
use Rattle.regex_marks.proofs.passes.pack.Goals as goal

pub returns : goal.returns
returns c = packed _ c.flag-empty.ensures.0 c.flag-was.ensures.0 c.flag-now.ensures.0 c.requires.1
