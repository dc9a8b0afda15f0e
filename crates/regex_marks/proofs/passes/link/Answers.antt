-- `regex_marks::passes::link` meets its contract.
use Rattle.regex_marks.proofs.passes.link.Goals as goal

pub returns : goal.returns
returns c = cc
