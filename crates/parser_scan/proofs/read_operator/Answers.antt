-- `parser_scan::read_operator` meets its contract: the six operators one by one, the longer before the shorter.
--
use mathlib.Core.Path.{refl}
use lib.Dec.{lit<}
use Rattle.definition.specs.Grammar.Operator.{eq_operator, ne_operator, lt_operator, le_operator, gt_operator, ge_operator}
use Rattle.definition.specs.Plans.{operator_byte}
use Rattle.definition.specs.Walk.{operator_form}
use Rattle.parser_scan.proofs.Operators.{long_operator, short_operator, no_operator}
use Rattle.parser_scan.proofs.read_operator.Goals as goal

pub returns-then-both : goal.returns-then-both
unfolding operator_form operator_byte
returns-then-both c = long_operator eq_operator 61 refl refl (lit< tt) (rw c.if-both.true at c.both.ensures)

pub returns-then-both-2 : goal.returns-then-both-2
unfolding operator_form operator_byte
returns-then-both-2 c = long_operator ne_operator 33 refl refl (lit< tt) (rw c.if-both-2.true at c.both-2.ensures)

pub returns-then-both-3 : goal.returns-then-both-3
unfolding operator_form operator_byte
returns-then-both-3 c = long_operator le_operator 60 refl refl (lit< tt) (rw c.if-both-3.true at c.both-3.ensures)

pub returns-then-is : goal.returns-then-is
unfolding operator_form operator_byte
returns-then-is c = short_operator lt_operator 60 refl (lit< tt) (rw c.if-both-3.false at c.both-3.ensures) (rw c.if-is.true at c.is.ensures)

pub returns-then-both-4 : goal.returns-then-both-4
unfolding operator_form operator_byte
returns-then-both-4 c = long_operator ge_operator 62 refl refl (lit< tt) (rw c.if-both-4.true at c.both-4.ensures)

pub returns-then-is-2 : goal.returns-then-is-2
unfolding operator_form operator_byte
returns-then-is-2 c = short_operator gt_operator 62 refl (lit< tt) (rw c.if-both-4.false at c.both-4.ensures) (rw c.if-is-2.true at c.is-2.ensures)

pub returns : goal.returns
returns c = no_operator (rw c.if-both.false at c.both.ensures) (rw c.if-both-2.false at c.both-2.ensures) (rw c.if-both-3.false at c.both-3.ensures) (rw c.if-is.false at c.is.ensures) (rw c.if-both-4.false at c.both-4.ensures) (rw c.if-is-2.false at c.is-2.ensures)
