-- `push_each` meets its contract: the numbers that are left give the whole.
use mathlib.Core.Path.{refl, ◌∙◌}
use native.Mathlib.Omega.{arith}
use Rattle.eval_front.specs.Places.{numbers_step, numbers_end, push_bound}
use Rattle.eval_front.proofs.push_each.Goals as goal

pub loop-j-init : goal.loop-j-init
loop-j-init c = record { same = refl; room = c.requires.room; again = refl }

pub push-a-requires : goal.push-a-requires
push-a-requires c = record { room = c.loop-j.invariant.room; wide = omega (arith, c.loop-j.invariant.same, c.requires.wide); small = c.requires.small; number = omega (arith, c.loop-j-test.true, c.requires.few) }

pub loop-j-preserved : goal.loop-j-preserved
loop-j-preserved c =
    record {
      same = c.push-a.auto.list ∙ c.loop-j.invariant.same;
      room = push_bound _ _ _ _ _ _ c.push-a.ensures;
      again = numbers_step _ _ _ _ c.loop-j-test.true c.push-a.ensures ∙ c.loop-j.invariant.again;
    }

pub shape_of-list : goal.shape_of-list
shape_of-list c = c.loop-j.invariant.same

pub returns : goal.returns
returns c = numbers_end _ _ _ c.loop-j-test.false ∙ c.loop-j.invariant.again
