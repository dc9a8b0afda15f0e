use Rattle.eval_values.specs.Same.{order_less, order_same, order_else, not_taken, not_left}
use Rattle.eval_values.specs.Same.{order_less, order_same, order_else}
use Rattle.eval_values.specs.Ranks.{is_rank_less}
use Rattle.eval_values.specs.Values.{ranked_of, rank_means, rank_less, boolean_means}
use Rattle.eval_values.specs.Means.{meaning}
use mathlib.Core.Path.{ap, ◌∙◌}
use mathlib.Core.Bool.{not}
use Rattle.eval_values.proofs.less_or_same.Goals as goal

-- src/lib.rt:148:8
pub is_less-requires : goal.is_less-requires
is_less-requires c = ranked_of c.args.table.now c.args.text.now c.args.pool.now c.requires.accepted c.args.x c.args.y c.requires.pair

-- src/lib.rt:149:9
pub returns-then-is_less : goal.returns-then-is_less
returns-then-is_less c = order_less (meaning c.args.table.now c.args.text.now c.args.pool.now c.args.x) (meaning c.args.table.now c.args.text.now c.args.pool.now c.args.y) _ (c.is_less.ensures ∙ ap is_rank_less (rank_means c.args.table.now c.args.text.now c.args.pool.now c.requires.accepted c.args.x c.args.y c.requires.pair) ∙ rank_less _ _) c.if-is_less.true

-- src/lib.rt:152:9
pub returns-then-not-same_values : goal.returns-then-not-same_values
returns-then-not-same_values c = order_same (meaning c.args.table.now c.args.text.now c.args.pool.now c.args.x) (meaning c.args.table.now c.args.text.now c.args.pool.now c.args.y) _ _ (c.is_less.ensures ∙ ap is_rank_less (rank_means c.args.table.now c.args.text.now c.args.pool.now c.requires.accepted c.args.x c.args.y c.requires.pair) ∙ rank_less _ _) c.if-is_less.false c.same_values.ensures (not_taken _ (ap not c.if-not-same_values.true))

-- src/lib.rt:143:1
pub returns : goal.returns
returns c = order_else (meaning c.args.table.now c.args.text.now c.args.pool.now c.args.x) (meaning c.args.table.now c.args.text.now c.args.pool.now c.args.y) _ _ _ (c.is_less.ensures ∙ ap is_rank_less (rank_means c.args.table.now c.args.text.now c.args.pool.now c.requires.accepted c.args.x c.args.y c.requires.pair) ∙ rank_less _ _) c.if-is_less.false c.same_values.ensures (not_left _ (ap not c.if-not-same_values.false)) (c.is_boolean.ensures ∙ boolean_means c.args.table.now c.args.text.now c.args.pool.now c.requires.accepted c.args.x c.requires.pair.first)
