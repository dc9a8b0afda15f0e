-- `regex_marks::spot` meets its contract.
use Rattle.regex_marks.proofs.Words.{clip_class}
use Rattle.regex_marks.proofs.Laws.{spot_room, spot_hit}
use Rattle.regex_marks.proofs.spot.Goals as goal

pub returns-then-marks-base : goal.returns-then-marks-base
returns-then-marks-base c = rw c.stop.ensures (spot_room _ _ _ _ _ c.requires.fact_2 _ c.requires.fact_1.here c.requires.fact_1.is c.if-marks-base.true)

pub hits-hit-requires : goal.hits-hit-requires
hits-hit-requires c = c.requires.fact_1.here

pub skip_class-n-requires : goal.skip_class-n-requires
skip_class-n-requires c = c.requires.fact_1.here

pub returns : goal.returns
returns c = let k = clip_class c.requires.fact_1.here c.skip_class-n.ensures c.min.ensures in spot_hit _ _ _ _ _ c.requires.fact_2 _ c.requires.fact_1.here c.requires.fact_1.is c.if-marks-base.false _ c.bit.ensures c.hits-hit.ensures k.0 k.1
