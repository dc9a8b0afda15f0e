-- `tally::tally` meets its contract: one outcome for each input.
use mathlib.Core.Path.{sym, ◌∙◌}
use Rattle.tally.proofs.Outcomes.{plan_short, not_taken, too_many, no_room, taken}
use Rattle.tally.proofs.tally.Goals as goal

pub returns-then-not-check_plan : goal.returns-then-not-check_plan
returns-then-not-check_plan c = not_taken c.args.plan.now c.args.pool.now c.args.counts.now c.args.plans.now c.check_plan.result c.check_plan.ensures.checks_plan c.if-not-check_plan.true

pub returns-then-taken-ge-MAX_INT : goal.returns-then-taken-ge-MAX_INT
returns-then-taken-ge-MAX_INT c = too_many c.args.plan.now c.args.pool.now c.args.counts.now c.args.plans.now c.check_plan.result c.check_plan.ensures.checks_plan c.if-not-check_plan.false c.if-taken-ge-MAX_INT.true

pub count_items-more-requires : goal.count_items-more-requires
count_items-more-requires c = plan_short c.check_plan.ensures.accepts c.if-not-check_plan.false

pub returns-then-not-fits : goal.returns-then-not-fits
returns-then-not-fits c = no_room c.args.plan.now c.args.pool.now c.args.counts.now c.args.plans.now c.check_plan.result c.check_plan.ensures.checks_plan c.if-not-check_plan.false c.count_items-more.ensures c.if-taken-ge-MAX_INT.false c.fits.ensures c.if-not-fits.true

pub sums-requires : goal.sums-requires
sums-requires c = sym c.if-not-fits.false ∙ c.fits.ensures

pub returns : goal.returns
returns c = taken c.args.plan.now c.args.pool.now c.args.counts.now c.args.plans.now c.check_plan.result c.check_plan.ensures.checks_plan c.if-not-check_plan.false c.count_items-more.ensures c.if-taken-ge-MAX_INT.false c.fits.ensures c.if-not-fits.false c.sums.ensures
