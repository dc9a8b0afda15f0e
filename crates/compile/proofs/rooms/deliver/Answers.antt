-- `compile::rooms::deliver` meets its contract: plan and pool are copied where both fit.
use Rattle.compile.proofs.Answers.{small_plan_lem, small_pool_lem, fits_both}
use Rattle.compile.proofs.rooms.deliver.Goals as goal

pub returns-then-plan-n : goal.returns-then-plan-n
returns-then-plan-n c = small_plan_lem c.args.from.now c.args.texts.now c.args.plan.now c.args.pool.now c.requires.0 c.requires.1 c.if-plan-n.true

pub returns-then-pool-m : goal.returns-then-pool-m
returns-then-pool-m c = small_pool_lem c.args.from.now c.args.texts.now c.args.plan.now c.args.pool.now c.requires.0 c.requires.1 c.if-plan-n.false c.if-pool-m.true

pub returns : goal.returns
returns c = fits_both c.args.from.now c.args.texts.now c.args.plan.now c.args.pool.now c.requires.0 c.requires.1 c.if-plan-n.false c.if-pool-m.false c.copy_part.ensures c.copy_part-2.ensures
