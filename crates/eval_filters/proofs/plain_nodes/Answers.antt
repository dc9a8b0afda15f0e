-- `plain_nodes` meets its contract: names and indices lead to nothing, to the end, or to where evaluation begins.
use Rattle.eval_filters.specs.Tests.{plain_lost, plain_one, plain_none}
use Rattle.eval_laws.specs.Items.{segments_in}
use native.Mathlib.Omega.{arith}
use Rattle.eval_filters.proofs.plain_nodes.Goals as goal

pub overflow_add-q : goal.overflow_add-q
overflow_add-q c = omega (arith, segments_in _ _ _ _ _ c.requires.query.at, c.requires.given.few_p)

pub past_query-z-requires : goal.past_query-z-requires
past_query-z-requires c = let y = c.reach-r.ensures.front c.requires.query.f c.requires.query.k c.requires.query.at in record { few = c.requires.given.few_p; f = y.g; k = y.j; holds = y.at.holds }

pub returns-in_default : goal.returns-in_default
returns-in_default c = plain_lost c.requires _ c.reach-r.ensures c.in_default.is _ c.past_query-z.ensures

pub bounds-plan-c : goal.bounds-plan-c
bounds-plan-c c = segments_in _ _ _ _ _ (c.reach-r.ensures.front c.requires.query.f c.requires.query.k c.requires.query.at).at

pub overflow_add-result : goal.overflow_add-result
overflow_add-result c = omega (arith, segments_in _ _ _ _ _ (c.reach-r.ensures.front c.requires.query.f c.requires.query.k c.requires.query.at).at, c.requires.given.few_p)

pub returns-then-plan-c-eq-END : goal.returns-then-plan-c-eq-END
returns-then-plan-c-eq-END c = plain_one c.requires _ c.reach-r.ensures _ c.in-Ok.is c.if-plan-c-eq-END.true

pub returns : goal.returns
returns c = plain_none c.reach-r.ensures c.in-Ok.is
