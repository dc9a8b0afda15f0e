-- `plan_check::single` meets its contract.
use Rattle.plan_check.proofs.LawsSegs.{single_none, single_kind, single_many, single_one}
use Rattle.plan_check.proofs.single.Goals as goal

pub returns-then-before-eq0 : goal.returns-then-before-eq0
returns-then-before-eq0 c = single_none c.args.before c.args.k c.args.n c.args.sort c.if-before-eq0.true

pub returns-then-k-ne-CHILD : goal.returns-then-k-ne-CHILD
returns-then-k-ne-CHILD c = single_kind c.args.before c.args.k c.args.n c.args.sort c.if-k-ne-CHILD.true

pub returns-then-n-ne1 : goal.returns-then-n-ne1
returns-then-n-ne1 c = single_many c.args.before c.args.k c.args.n c.args.sort c.if-k-ne-CHILD.false c.if-n-ne1.true

pub returns : goal.returns
returns c = single_one c.args.before c.args.k c.args.n c.args.sort c.requires.0 c.if-before-eq0.false c.if-k-ne-CHILD.false c.if-n-ne1.false
