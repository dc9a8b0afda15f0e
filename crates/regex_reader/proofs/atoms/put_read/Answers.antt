-- `regex_reader::atoms::put_read` meets its contract.
use Rattle.regex_reader.specs.Reads.PutChar.{next, stop}
use Rattle.regex_reader.proofs.atoms.put_read.Goals as goal

pub returns-in_err-b : goal.returns-in_err-b
returns-in_err-b c = rw (c.in_err-b.was, c.from_residual.ensures) stop

pub returns : goal.returns
returns c = rw c.in_ok-b.was (next _ _ c.put_char.ensures)
