-- `push_along` meets its contract.
use mathlib.Core.Path.{◌∙◌}
use Rattle.eval_shortcuts.specs.Alongs.{along_start, along_done, along_visit, along_stop, along_next}
use Rattle.eval_shortcuts.proofs.straight.push_along.Goals as goal

pub loop-j-init : goal.loop-j-init
loop-j-init c = along_start _ _ _ _ _ _ _ _ _ _ c.requires.list.room

pub shape_of-list-then-cap-a : goal.shape_of-list-then-cap-a
shape_of-list-then-cap-a c = c.loop-j.invariant.same

pub returns-then-cap-a : goal.returns-then-cap-a
returns-then-cap-a c = along_done c.loop-j.invariant

pub visit-requires : goal.visit-requires
visit-requires c = along_visit c.loop-j.invariant c.requires c.loop-j-test.true

pub shape_of-list-in-Err : goal.shape_of-list-in-Err
shape_of-list-in-Err c = c.visit.auto.list ∙ c.loop-j.invariant.same

pub returns-in-Err : goal.returns-in-Err
returns-in-Err c = along_stop c.loop-j.invariant c.loop-j-test.true c.in-Err.ensures

pub loop-j-preserved : goal.loop-j-preserved
loop-j-preserved c = along_next c.loop-j.invariant c.loop-j-test.true c.in-Ok.ensures c.visit.auto.list

pub shape_of-list : goal.shape_of-list
shape_of-list c = c.loop-j.invariant.same

pub returns : goal.returns
returns c = along_done c.loop-j.invariant
