-- `regex_marks::passes::enters` meets its contract.
use Rattle.regex_marks.proofs.passes.enters.Goals as goal

pub returns : goal.returns
returns c = cc
