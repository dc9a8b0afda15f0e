-- `push_places` meets its contract: the places that are left give the whole.
use mathlib.Core.Path.{refl, ◌∙◌}
use native.Mathlib.Omega.{arith}
use Rattle.definition.specs.Limits.{max_nodes}
use Rattle.slices.specs.Laws.{inside_at}
use Rattle.eval_front.specs.Places.{push_bound, walked_step, walked_end}
use Rattle.eval_front.proofs.push_places.Goals as goal

pub loop-w-init : goal.loop-w-init
loop-w-init c = record { same = refl; room = c.requires.room; inside = c.requires.inside; again = refl }

pub push-a-requires : goal.push-a-requires
push-a-requires c = record { room = c.loop-w.invariant.room; wide = omega (arith, c.loop-w.invariant.same, c.requires.wide); small = c.requires.small; number = omega (arith, inside_at max_nodes _ c.loop-w.invariant.inside c.loop-w-test.true) }

pub further-w-requires : goal.further-w-requires
further-w-requires c = (c.loop-w-test.true, c.loop-w.invariant.inside)

pub loop-w-smaller : goal.loop-w-smaller
loop-w-smaller c = omega (arith, c.further-w.ensures.next.fewer)

pub loop-w-preserved : goal.loop-w-preserved
loop-w-preserved c =
    record {
      same = c.push-a.auto.list ∙ c.loop-w.invariant.same;
      room = push_bound _ _ _ _ _ _ c.push-a.ensures;
      inside = c.further-w.ensures.next.inside max_nodes c.loop-w.invariant.inside;
      again = walked_step _ _ _ _ c.further-w.ensures.next c.push-a.ensures ∙ c.loop-w.invariant.again;
    }

pub shape_of-list : goal.shape_of-list
shape_of-list c = c.loop-w.invariant.same

pub returns : goal.returns
returns c = walked_end _ _ c.loop-w-test.false ∙ c.loop-w.invariant.again
