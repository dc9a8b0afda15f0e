-- `cells::place` meets its contract.
use Rattle.eval_asks.specs.Cells.{place_yes, place_no}
use Rattle.eval_asks.proofs.cells.place.Goals as goal

pub returns-then-c-ge-YES : goal.returns-then-c-ge-YES
returns-then-c-ge-YES c = place_yes _ c.if-c-ge-YES.true

pub returns : goal.returns
returns c = place_no _ c.if-c-ge-YES.false
