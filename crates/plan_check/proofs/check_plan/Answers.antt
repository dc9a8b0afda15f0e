-- `plan_check::check_plan` meets its contract.
use Rattle.plan_check.proofs.LawsTop.{told, top_plan_long, top_pool_long, top_kind, top_start, top_stop, top_plan_rest, top_pool_end}
use Rattle.plan_check.proofs.Steps.{read_of, none_of}
use mathlib.Core.Path.{refl}
use borrow.Author.Tests.{ne_eqb}
use lib.ListN.{length}
use Rattle.plan_check.proofs.check_plan.Goals as goal

pub returns-then-plan-gt-MAX_PLAN : goal.returns-then-plan-gt-MAX_PLAN
returns-then-plan-gt-MAX_PLAN c = told (top_plan_long c.if-plan-gt-MAX_PLAN.true)

pub returns-then-pool-gt-MAX_PLAN : goal.returns-then-pool-gt-MAX_PLAN
returns-then-pool-gt-MAX_PLAN c = told (top_pool_long c.if-pool-gt-MAX_PLAN.true)

pub returns-then-kind-ne-ROOT : goal.returns-then-kind-ne-ROOT
returns-then-kind-ne-ROOT c = told (top_kind c.kind.ensures c.if-kind-ne-ROOT.true)

pub segs-requires : goal.segs-requires
segs-requires c = top_start c.kind.ensures c.if-kind-ne-ROOT.false c.if-plan-gt-MAX_PLAN.false c.if-pool-gt-MAX_PLAN.false

pub returns-in-None : goal.returns-in-None
returns-in-None c = told (top_stop c.kind.ensures c.if-kind-ne-ROOT.false (none_of c.segs.ensures c.in-None.is))

pub returns-then-g-plan : goal.returns-then-g-plan
returns-then-g-plan c = told (top_pool_end c.kind.ensures c.if-kind-ne-ROOT.false c.if-plan-gt-MAX_PLAN.false c.if-pool-gt-MAX_PLAN.false (read_of c.segs.ensures c.in-Some.is) c.if-g-plan.true _ refl)

pub returns-else-g-plan : goal.returns-else-g-plan
returns-else-g-plan c = rw (ne_eqb c.in-Some.g.at (length c.args.plan.now) c.if-g-plan.false) (told (top_plan_rest c.kind.ensures c.if-kind-ne-ROOT.false c.if-plan-gt-MAX_PLAN.false c.if-pool-gt-MAX_PLAN.false (read_of c.segs.ensures c.in-Some.is) c.if-g-plan.false))
