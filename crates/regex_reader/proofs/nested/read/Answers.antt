-- `regex_reader::nested::read` meets its contract.
use Rattle.regex_reader.proofs.OfNested.{read_is, whole_none, whole_left, whole_code}
use Rattle.regex_reader.proofs.nested.read.Goals as goal

pub returns-then-n-s : goal.returns-then-n-s
returns-then-n-s c = whole_left _ _ _ (read_is c.in_ok-n.ensures) c.if-n-s.true

pub returns-in_err-n : goal.returns-in_err-n
returns-in_err-n c = rw c.from_residual.ensures (whole_none _ _ _ c.in_err-n.ensures)

pub returns : goal.returns
returns c = whole_code _ _ _ (read_is c.in_ok-n.ensures) c.if-n-s.false
