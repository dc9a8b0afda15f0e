-- `is_constant` meets its contract.
use Rattle.eval_filters.specs.Kinds.{constant_no, constant_yes, constant_none}
use Rattle.eval_filters.proofs.kinds.is_constant.Goals as goal

pub returns-then-b-eq0 : goal.returns-then-b-eq0
returns-then-b-eq0 c = constant_no c.args.b c.args.kind c.if-b-eq0.true

pub returns-then-b-eq1 : goal.returns-then-b-eq1
returns-then-b-eq1 c = constant_yes c.args.b c.args.kind c.if-b-eq0.false c.if-b-eq1.true

pub returns : goal.returns
returns c = constant_none c.args.b c.args.kind c.if-b-eq0.false c.if-b-eq1.false
