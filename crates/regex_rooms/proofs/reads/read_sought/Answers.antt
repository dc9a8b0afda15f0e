-- `regex_rooms::reads::read_sought` meets its contract.
use Rattle.regex_rooms.proofs.Laws.{sought_room, sought_fits, sought_read, sought_none, sought_code}
use borrow.Author.Rules.{rules}
use Rattle.regex_rooms.proofs.reads.read_sought.Goals as goal

pub put_anything-requires : goal.put_anything-requires
put_anything-requires c = sought_room c.requires.e_in_bounds.1 c.put_before.ensures (sought_code c.in_ok-n.ensures)

pub overflow_add-result : goal.overflow_add-result
overflow_add-result c = search (rules, sought_fits c.requires.e_in_bounds.1 c.put_before.ensures (sought_code c.in_ok-n.ensures), c.well_formed.1.1.0.1)

pub returns-in_err-n : goal.returns-in_err-n
returns-in_err-n c = rw c.from_residual.ensures (sought_none c.in_err-n.ensures)

pub returns : goal.returns
returns c = sought_read c.requires.e_in_bounds.1 c.put_before.ensures (sought_code c.in_ok-n.ensures) c.put_anything.ensures
