-- `entrance::evaluate` meets its contract: nothing is found, or a node is pushed, or evaluation goes on behind its entrance.
use mathlib.Core.Path.{refl}
use Rattle.eval_front.specs.Turns.{leads_in}
use Rattle.eval.specs.Fronts.{front_asked, front_lost, front_on, front_end, front_in, front_found}
use Rattle.eval.proofs.entrance.evaluate.Goals as goal

pub front-r-requires : goal.front-r-requires
front-r-requires c = front_asked c.requires.begins c.requires.ask_segments

pub returns-in_default : goal.returns-in_default
returns-in_default c = front_lost c.requires.begins c.requires.ask_segments c.front-r.ensures c.in_default.is _

pub bounds-plan-q : goal.bounds-plan-q
bounds-plan-q c = front_in c.requires.begins c.requires.ask_segments c.front-r.ensures

pub push-requires : goal.push-requires
push-requires c = front_found c.requires.begins c.requires.ask_segments c.front-r.ensures c.in-Ok.is

pub returns-then-plan-q-eq-END : goal.returns-then-plan-q-eq-END
returns-then-plan-q-eq-END c = front_end c.requires.begins c.requires.ask_segments c.front-r.ensures c.in-Ok.is c.if-plan-q-eq-END.true _ _ _ c.push.ensures

pub enter-requires : goal.enter-requires
enter-requires c =
    let w = c.front-r.ensures.front c.requires.ask_segments.f c.requires.ask_segments.k c.requires.ask_segments.at in
    record { asked = record { given = record { few_p = c.requires.begins.few_p; few_l = c.requires.begins.few_l; tab = c.requires.begins.tab }; root_in = c.requires.begins.root_in; room = c.requires.begins.room; wide = c.requires.begins.wide; small = c.requires.begins.small }; segment = record { node_in = leads_in c.front-r.ensures c.in-Ok.is; query = record { f = w.g; k = w.j; at = w.at } }; going = c.if-plan-q-eq-END.false }

pub shape_of-list : goal.shape_of-list
shape_of-list c = c.enter.ensures.kept.long

pub returns : goal.returns
returns c = front_on c.requires.begins c.requires.ask_segments c.front-r.ensures c.in-Ok.is _ _ _ (λ f k a. c.enter.ensures.gives.emits (record { f = f; k = k; at = a }) _ _ refl refl)
