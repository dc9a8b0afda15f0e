use Rattle.eval_values.specs.Same.{says_eq, says_ne, says_lt, says_le, says_gt, says_ge}
use Rattle.eval_values.specs.Same.{says_eq, says_ne, says_lt, says_le, says_gt, says_ge}
use Rattle.eval_values.specs.Ranks.{is_rank_less}
use Rattle.eval_values.specs.Values.{ranked_of, rank_means, rank_less}
use Rattle.eval_values.specs.Means.{meaning}
use mathlib.Core.Path.{ap, ◌∙◌}
use Rattle.eval_values.proofs.compare_values.Goals as goal

-- src/lib.rt:179:9
pub returns-then-op-eq-EQ : goal.returns-then-op-eq-EQ
returns-then-op-eq-EQ c = says_eq (meaning c.args.table.now c.args.text.now c.args.pool.now c.args.x) (meaning c.args.table.now c.args.text.now c.args.pool.now c.args.y) _ _ c.if-op-eq-EQ.true c.same_values.ensures

-- src/lib.rt:182:9
pub returns-then-op-eq-NE : goal.returns-then-op-eq-NE
returns-then-op-eq-NE c = says_ne (meaning c.args.table.now c.args.text.now c.args.pool.now c.args.x) (meaning c.args.table.now c.args.text.now c.args.pool.now c.args.y) _ _ c.if-op-eq-NE.true c.not_same.ensures

-- src/lib.rt:185:9
pub is_less-requires : goal.is_less-requires
is_less-requires c = ranked_of c.args.table.now c.args.text.now c.args.pool.now c.requires.accepted c.args.x c.args.y c.requires.pair

-- src/lib.rt:185:9
pub returns-then-op-eq-LT : goal.returns-then-op-eq-LT
returns-then-op-eq-LT c = says_lt (meaning c.args.table.now c.args.text.now c.args.pool.now c.args.x) (meaning c.args.table.now c.args.text.now c.args.pool.now c.args.y) _ _ c.if-op-eq-LT.true (c.is_less.ensures ∙ ap is_rank_less (rank_means c.args.table.now c.args.text.now c.args.pool.now c.requires.accepted c.args.x c.args.y c.requires.pair) ∙ rank_less _ _)

-- src/lib.rt:188:9
pub returns-then-op-eq-LE : goal.returns-then-op-eq-LE
returns-then-op-eq-LE c = says_le (meaning c.args.table.now c.args.text.now c.args.pool.now c.args.x) (meaning c.args.table.now c.args.text.now c.args.pool.now c.args.y) _ _ c.if-op-eq-LE.true c.less_or_same.ensures

-- src/lib.rt:191:9
pub is_less-requires-then-op-eq-GT : goal.is_less-requires-then-op-eq-GT
is_less-requires-then-op-eq-GT c = ranked_of _ _ _ c.requires.accepted _ _ (record { first = c.requires.pair.second; second = c.requires.pair.first })

-- src/lib.rt:191:9
pub returns-then-op-eq-GT : goal.returns-then-op-eq-GT
returns-then-op-eq-GT c = says_gt (meaning c.args.table.now c.args.text.now c.args.pool.now c.args.x) (meaning c.args.table.now c.args.text.now c.args.pool.now c.args.y) _ _ c.if-op-eq-GT.true (c.is_less-then-op-eq-GT.ensures ∙ ap is_rank_less (rank_means c.args.table.now c.args.text.now c.args.pool.now c.requires.accepted c.args.y c.args.x (record { first = c.requires.pair.second; second = c.requires.pair.first })) ∙ rank_less _ _)

-- src/lib.rt:193:5
pub less_or_same-requires-2 : goal.less_or_same-requires-2
less_or_same-requires-2 c = record { accepted = c.requires.accepted; pair = (record { first = c.requires.pair.second; second = c.requires.pair.first }) }

-- src/lib.rt:173:1
pub returns : goal.returns
returns c = says_ge (meaning c.args.table.now c.args.text.now c.args.pool.now c.args.x) (meaning c.args.table.now c.args.text.now c.args.pool.now c.args.y) _ _ c.if-op-eq-EQ.false c.if-op-eq-NE.false c.if-op-eq-LT.false c.if-op-eq-LE.false c.if-op-eq-GT.false c.less_or_same-2.ensures
