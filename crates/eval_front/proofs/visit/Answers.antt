-- `visit` meets its contract: the front of the query leads nowhere, to its end, or to more.
use native.Mathlib.Omega.{arith}
use Rattle.eval_front.specs.Turns.{reached_in, leads_in, visit_lost, visit_more, visit_end}
use Rattle.eval_front.proofs.visit.Goals as goal

pub returns-in_default : goal.returns-in_default
returns-in_default c = visit_lost c.reach-r.ensures _ _ _ c.in_default.is c.requires.room

pub bounds-plan-pc : goal.bounds-plan-pc
bounds-plan-pc c = reached_in c.reach-r.ensures c.requires.query

pub returns-then-plan-pc-ne-END : goal.returns-then-plan-pc-ne-END
returns-then-plan-pc-ne-END c = visit_more c.reach-r.ensures c.in-Ok.is c.if-plan-pc-ne-END.true

pub push-a-requires : goal.push-a-requires
push-a-requires c = record { room = c.requires.room; wide = c.requires.wide; small = c.requires.small; number = omega (arith, leads_in c.reach-r.ensures c.in-Ok.is, c.requires.given.tab.size.few) }

pub shape_of-list : goal.shape_of-list
shape_of-list c = c.push-a.auto.list

pub returns : goal.returns
returns c = visit_end c.reach-r.ensures _ _ _ c.in-Ok.is c.requires.given.tab c.if-plan-pc-ne-END.false _ _ c.push-a.ensures
