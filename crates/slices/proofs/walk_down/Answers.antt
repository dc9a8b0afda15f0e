-- `slices::walk_down` meets its contract. A start at n goes on a step below it.
use native.Mathlib.Omega.{arith}
use Rattle.slices.proofs.Answers.{walk_down, walk_end, walk_end_none}
use Rattle.slices.proofs.walk_down.Goals as goal

pub returns-then-at-n : goal.returns-then-at-n
returns-then-at-n c = walk_down c.args.n c.args.at c.args.end c.args.step c.turns-left.result c.requires.3 c.if-at-n.true c.turns-left.ensures

pub returns-then-n-step : goal.returns-then-n-step
returns-then-n-step c = walk_end_none c.args.n c.args.at c.args.end c.args.step (omega arith) c.if-n-step.true

pub returns : goal.returns
returns c = walk_end c.args.n c.args.at c.args.end c.args.step c.turns-left-2.result c.requires.3 (omega arith) c.if-n-step.false c.turns-left-2.ensures
