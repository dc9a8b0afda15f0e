-- `regex_marks::passes::bare` meets its contract.
use Rattle.regex_marks.proofs.passes.bare.Goals as goal

pub returns : goal.returns
returns c = cc
