-- `eval_front::push` meets its contract: past the cap, at a place, behind the places.
use Rattle.eval_laws.specs.States.{push_in, push_out, push_full}
use Rattle.eval_front.proofs.push.Goals as goal

pub returns-then-cap-at : goal.returns-then-cap-at
returns-then-cap-at c = push_full _ _ _ _ c.requires.wide c.if-cap-at.true c.requires.room

pub returns-then-at-list : goal.returns-then-at-list
returns-then-at-list c = push_in _ _ _ _ c.if-cap-at.false

pub returns : goal.returns
returns c = push_out _ _ _ _ c.if-cap-at.false c.if-at-list.false
