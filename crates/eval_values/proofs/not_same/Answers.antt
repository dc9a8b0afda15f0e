use Rattle.eval_values.specs.Same.{differ_left, differ_right, differ_both, not_taken, not_left}
use Rattle.eval_values.specs.Same.{differ_left, differ_right, differ_both}
use Rattle.eval_values.specs.Values.{some_means}
use Rattle.eval_values.specs.Means.{meaning}
use mathlib.Core.Path.{◌∙◌}
use mathlib.Core.Path.{ap}
use mathlib.Core.Bool.{not}
use Rattle.eval_values.proofs.not_same.Goals as goal

-- src/lib.rt:164:9
pub returns-then-not-is_some : goal.returns-then-not-is_some
returns-then-not-is_some c = differ_left (meaning c.args.table.now c.args.text.now c.args.pool.now c.args.x) (meaning c.args.table.now c.args.text.now c.args.pool.now c.args.y) _ (c.is_some.ensures ∙ some_means c.args.table.now c.args.text.now c.args.pool.now c.requires.accepted c.args.x c.requires.pair.first) (not_taken _ (ap not c.if-not-is_some.true))

-- src/lib.rt:167:9
pub returns-then-not-is_some-2 : goal.returns-then-not-is_some-2
returns-then-not-is_some-2 c = differ_right (meaning c.args.table.now c.args.text.now c.args.pool.now c.args.x) (meaning c.args.table.now c.args.text.now c.args.pool.now c.args.y) _ (c.is_some-2.ensures ∙ some_means c.args.table.now c.args.text.now c.args.pool.now c.requires.accepted c.args.y c.requires.pair.second) (not_taken _ (ap not c.if-not-is_some-2.true))

-- src/lib.rt:158:1
pub returns : goal.returns
returns c = differ_both (meaning c.args.table.now c.args.text.now c.args.pool.now c.args.x) (meaning c.args.table.now c.args.text.now c.args.pool.now c.args.y) _ _ _ (c.is_some.ensures ∙ some_means c.args.table.now c.args.text.now c.args.pool.now c.requires.accepted c.args.x c.requires.pair.first) (not_left _ (ap not c.if-not-is_some.false)) (c.is_some-2.ensures ∙ some_means c.args.table.now c.args.text.now c.args.pool.now c.requires.accepted c.args.y c.requires.pair.second) (not_left _ (ap not c.if-not-is_some-2.false)) c.same_values.ensures
