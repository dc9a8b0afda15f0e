-- `slices::walk_up` meets its contract. A step of 0 walks nowhere.
use Rattle.slices.proofs.Answers.{walk_nowhere, walk_up}
use Rattle.slices.proofs.walk_up.Goals as goal

pub returns-then-step-eq0 : goal.returns-then-step-eq0
returns-then-step-eq0 c = walk_nowhere c.args.n c.args.at c.args.end c.args.step c.if-step-eq0.true

pub returns : goal.returns
returns c = walk_up c.args.n c.args.at c.args.end c.args.step c.turns-left.result c.if-step-eq0.false c.requires.2 c.turns-left.ensures
