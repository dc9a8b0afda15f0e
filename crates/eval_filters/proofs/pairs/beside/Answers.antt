-- `beside` meets its contract.
use native.Mathlib.Omega.{arith}
use lib.ListN.{get_or}
use mathlib.Core.Path.{refl}
use Rattle.eval_filters.specs.Queries.{begins_in}
use Rattle.eval_filters.specs.Pairs.{beside_none, beside_in, beside_query, beside_past, beside_operator, beside_done}
use Rattle.eval_filters.proofs.pairs.beside.Goals as goal

pub returns-then-e-z : goal.returns-then-e-z
returns-then-e-z c = beside_none c.untold.ensures

pub bounds-plan-z : goal.bounds-plan-z
bounds-plan-z c = beside_in c.requires c.if-e-z.false _ refl

pub plain_nodes-requires : goal.plain_nodes-requires
plain_nodes-requires c = record { given = record { few_p = c.requires.within.few_p; few_l = c.requires.within.few_l; tab = c.requires.within.tab }; node_in = begins_in _ (get_or c.args.plan.now c.args.z 0) _ _ _ c.begins-from.ensures c.requires.within.root_in c.requires.within.node_in; query = beside_query c.requires c.if-e-z.false _ refl }

pub returns-in_default : goal.returns-in_default
returns-in_default c = beside_none c.untold-in_default.ensures

pub returns-then-e-w : goal.returns-then-e-w
returns-then-e-w c = beside_none c.untold-then-e-w.ensures

pub bounds-plan-w : goal.bounds-plan-w
bounds-plan-w c = (beside_past c.requires c.if-e-z.false _ c.begins-from.ensures _ c.in-Ok.ensures).1

pub returns-then-plan-w-ne-COMPARE : goal.returns-then-plan-w-ne-COMPARE
returns-then-plan-w-ne-COMPARE c = beside_none c.untold-then-plan-w-ne-COMPARE.ensures

pub overflow_add-op : goal.overflow_add-op
overflow_add-op c = omega (arith, (beside_past c.requires c.if-e-z.false _ c.begins-from.ensures _ c.in-Ok.ensures).1, c.requires.within.few_p)

pub bounds-plan-w-2 : goal.bounds-plan-w-2
bounds-plan-w-2 c = beside_operator c.requires c.if-e-z.false _ c.begins-from.ensures _ c.in-Ok.ensures c.if-e-w.false c.if-plan-w-ne-COMPARE.false

pub compare_first-b-requires : goal.compare_first-b-requires
compare_first-b-requires c = record { tab = c.requires.within.tab; inside = c.requires.inside; beside = c.in-Ok.ensures.inside }

pub overflow_add-result : goal.overflow_add-result
overflow_add-result c = omega (arith, (beside_past c.requires c.if-e-z.false _ c.begins-from.ensures _ c.in-Ok.ensures).1, c.requires.within.few_p)

pub returns : goal.returns
returns c = beside_done c.requires c.if-e-z.false _ c.begins-from.ensures _ c.in-Ok.ensures c.if-e-w.false c.if-plan-w-ne-COMPARE.false _ c.compare_first-b.ensures
