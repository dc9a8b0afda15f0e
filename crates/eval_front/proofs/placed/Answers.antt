-- `placed` meets its contract: no place, one place, or several a step apart.
use native.Mathlib.Omega.{arith}
use Rattle.eval_front.specs.Places.{place_bound, placed_none, placed_one, placed_many}
use Rattle.eval_front.proofs.placed.Goals as goal

pub returns-then-left-eq0 : goal.returns-then-left-eq0
returns-then-left-eq0 c = placed_none _ c.requires c.if-left-eq0.true

pub overflow_add-at : goal.overflow_add-at
overflow_add-at c = omega (arith, place_bound c.args.walk c.requires (omega arith), c.requires.few)

pub returns-then-left-eq1 : goal.returns-then-left-eq1
returns-then-left-eq1 c = placed_one _ c.requires c.if-left-eq1.true

pub returns : goal.returns
returns c = placed_many _ c.requires c.if-left-eq0.false c.if-left-eq1.false
