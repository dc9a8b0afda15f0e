-- `regex_marks::passes::chain` meets its contract.
use Rattle.regex_marks.proofs.passes.chain.Goals as goal

pub returns : goal.returns
returns c = cc
