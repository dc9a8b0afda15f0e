-- `constant` meets its contract: it is `constant_of` in each case.
use Rattle.eval_items.specs.LeafLaws.{constant_false, constant_true, constant_null}
use Rattle.eval_items.proofs.leaves.constant.Goals as goal

pub returns-then-b-eq0 : goal.returns-then-b-eq0
returns-then-b-eq0 c = constant_false _ c.if-b-eq0.true

pub returns-then-b-eq1 : goal.returns-then-b-eq1
returns-then-b-eq1 c = constant_true _ c.if-b-eq0.false c.if-b-eq1.true

pub returns : goal.returns
returns c = constant_null _ c.if-b-eq0.false c.if-b-eq1.false
