-- `regex_rooms::asked` meets its contract.
use Rattle.regex_rooms.proofs.Laws.{code_is, holds_none, holds_some}
use lib.Seq.{length-take-le}
use mathlib.Core.Path.{sym}
use Rattle.regex_rooms.proofs.asked.Goals as goal

pub slice_bounds-test_within-end : goal.slice_bounds-test_within-end
slice_bounds-test_within-end c = (code_is c.in-Some.ensures).inside

pub slice_bounds-test_within-end-in-Some : goal.slice_bounds-test_within-end-in-Some
slice_bounds-test_within-end-in-Some c = sym (length-take-le _ _ (code_is c.in-Some.ensures).inside)

pub returns-in-None : goal.returns-in-None
returns-in-None c = holds_none _ _ c.in-None.ensures

pub returns-in-Some : goal.returns-in-Some
returns-in-Some c = holds_some _ _ _ c.requires.text_value.0 (code_is c.in-Some.ensures) c.test_within.ensures
