-- `number_digits::read_unsigned` meets its contract: the run's length and its first byte say which law of proofs/Shapes.antt answers.
use Rattle.number_digits.proofs.Shapes.{none_there, number_there, zero_first}
use Rattle.number_digits.proofs.read_unsigned.Goals as goal
use Rattle.number_digits.proofs.read_unsigned.Goals.{else-s-at-eq48-via-then-s-at-eq48+else-r-at-ne1, else-s-at-eq48-via-else-s-at-eq48}

pub returns-then-r-at : goal.returns-then-r-at
returns-then-r-at c = none_there c.args.s.now c.args.at c.digits-r.result c.digits-r.ensures c.if-r-at.true

pub returns-then-r-at-ne1 : goal.returns-then-r-at-ne1
returns-then-r-at-ne1 c = zero_first c.args.s.now c.args.at c.digits-r.result c.digits-r.ensures c.if-r-at.false c.if-s-at-eq48.true c.if-r-at-ne1.true

pub returns : goal.returns
returns c =
    number_there c.args.s.now c.args.at c.digits-r.result c.digits-r.ensures c.if-r-at.false
    (elim c.else-s-at-eq48.branch [ else-s-at-eq48-via-then-s-at-eq48+else-r-at-ne1 w ↦ λ e. w.if-r-at-ne1.false | else-s-at-eq48-via-else-s-at-eq48 w ↦ λ e. absurd (w.if-s-at-eq48.false e) ])
