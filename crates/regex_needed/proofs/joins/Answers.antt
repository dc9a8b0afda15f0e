-- `regex_needed::joins` meets its contract.
use mathlib.Core.Path.{refl}
use Rattle.regex_needed.proofs.Writing.{joins_once, joins_more}
use Rattle.regex_needed.proofs.joins.Goals as goal

pub returns-then-single : goal.returns-then-single
returns-then-single c = joins_once c.requires.fact_1 refl refl (c.single.ensures c.if-single.true).0 (c.single.ensures c.if-single.true).1 c.needed-l.ensures

pub returns : goal.returns
returns c = joins_more c.requires.fact_1 refl refl c.if-hi-lo.false c.needed-l.ensures c.if-l-gt0.false c.product.ensures
