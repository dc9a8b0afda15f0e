-- `regex_marks::passes::fork` meets its contract.
use Rattle.regex_marks.proofs.passes.fork.Goals as goal

pub returns : goal.returns
returns c = cc
