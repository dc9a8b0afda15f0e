-- `regex_marks::passes::looped` meets its contract.
use Rattle.regex_marks.proofs.passes.looped.Goals as goal

pub returns : goal.returns
returns c = cc
