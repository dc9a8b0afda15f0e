-- `picks` meets its contract.
use mathlib.Core.Bool.{false≢true}
use native.Mathlib.Omega.{arith}
use Rattle.eval_shortcuts.specs.Picks.{picks_of}
use Rattle.eval_shortcuts.proofs.several.picks.Goals as goal

pub overflow_add-pc : goal.overflow_add-pc
overflow_add-pc c = omega (arith, c.requires.0, c.requires.1)

pub returns-then-plan-pc : goal.returns-then-plan-pc
returns-then-plan-pc c e = absurd (false≢true e)

pub bounds-plan-pc : goal.bounds-plan-pc
bounds-plan-pc c = omega (arith, c.if-plan-pc.false)

pub returns-then-plan-pc-ne-CHILD : goal.returns-then-plan-pc-ne-CHILD
returns-then-plan-pc-ne-CHILD c e = absurd (false≢true e)

pub overflow_add-pc-2 : goal.overflow_add-pc-2
overflow_add-pc-2 c = omega (arith, c.if-plan-pc.false, c.requires.0)

pub word16-n-requires : goal.word16-n-requires
word16-n-requires c = omega (arith, c.if-plan-pc.false)

pub returns-then-n-gt-MOST : goal.returns-then-n-gt-MOST
returns-then-n-gt-MOST c e = absurd (false≢true e)

pub overflow_add-pc-3 : goal.overflow_add-pc-3
overflow_add-pc-3 c = omega (arith, c.if-plan-pc.false, c.requires.0)

pub ends-requires : goal.ends-requires
ends-requires c = (c.requires.0, omega (arith, c.if-plan-pc.false))

pub returns : goal.returns
returns c e = picks_of _ _ _ c.if-plan-pc.false c.if-plan-pc-ne-CHILD.false c.if-n-gt-MOST.false c.word16-n.ensures (c.ends.ensures e)
