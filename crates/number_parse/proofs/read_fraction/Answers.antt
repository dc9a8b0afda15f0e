-- `number_parse::read_fraction` meets its contract: the point and the digits behind it.
use Rattle.number_parse.proofs.Fractions.{point_alone, point_digits, no_point}
use Rattle.number_parse.proofs.read_fraction.Goals as goal

pub returns-then-not-is : goal.returns-then-not-is
returns-then-not-is c = no_point _ _ _ c.requires.0 c.requires.1 (rw c.if-not-is.true at c.is.ensures)

pub returns-then-r-from : goal.returns-then-r-from
returns-then-r-from c = point_alone _ _ _ _ _ (rw c.if-not-is.false at c.is.ensures) c.digits-r.ensures c.if-r-from.true

pub returns : goal.returns
returns c = point_digits _ _ _ _ _ (rw c.if-not-is.false at c.is.ensures) c.digits-r.ensures c.if-r-from.false
