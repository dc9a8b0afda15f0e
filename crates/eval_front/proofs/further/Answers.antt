-- `further` meets its contract: the places of the next walk say where it stands.
use Rattle.eval_front.specs.Places.{further_last, further_next}
use Rattle.eval_front.proofs.further.Goals as goal

-- src/lib.rt:230:9
pub returns-then-left-eq0 : goal.returns-then-left-eq0
returns-then-left-eq0 c = further_last _ _ c.next_place-n.ensures c.if-left-eq0.true

-- src/lib.rt:221:1
pub returns : goal.returns
returns c = further_next _ _ c.requires.1 c.next_place-n.ensures c.if-left-eq0.false
