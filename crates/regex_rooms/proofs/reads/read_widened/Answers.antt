-- `regex_rooms::reads::read_widened` meets its contract.
use Rattle.regex_rooms.proofs.Laws.{for_search, for_match, whole_read}
use Rattle.regex_rooms.proofs.reads.read_widened.Goals as goal

pub returns-then-kind-eq-SEARCH : goal.returns-then-kind-eq-SEARCH
returns-then-kind-eq-SEARCH c = for_search _ c.if-kind-eq-SEARCH.true c.read_sought.ensures

pub returns : goal.returns
returns c = for_match _ c.if-kind-eq-SEARCH.false (whole_read c.requires.e_in_bounds.1 c.read_bytes.ensures)
