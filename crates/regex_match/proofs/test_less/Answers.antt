-- `regex_match::test_less` meets its contract.
use native.Mathlib.Omega.{arith}
use Rattle.regex_match.proofs.Laws.{by_less, taken_long}
use Rattle.regex_match.proofs.test_less.Goals as goal

pub slice_bounds-test-end-2 : goal.slice_bounds-test-end-2
slice_bounds-test-end-2 c = taken_long _ _ c.if-words-n.false

pub returns : goal.returns
returns c = by_less _ _ c.lessen-p.ensures (omega (arith, c.if-words-n.false, c.lessen-p.ensures.goes.long)) c.test-2.ensures
