-- `regex_places::clear` meets its contract.
use Rattle.regex_places.proofs.Sets.{none_start, cleared_on, none_all}
use lib.ListN.{length-set}
use mathlib.Core.Path.{refl, ◌∙◌}
use native.Mathlib.Omega.{arith}
use Rattle.regex_places.proofs.clear.Goals as goal

pub loop-i-init : goal.loop-i-init
loop-i-init c = (refl, none_start)

pub bounds-set-i : goal.bounds-set-i
bounds-set-i c = omega (arith, c.requires, c.loop-i.invariant.0)

pub loop-i-preserved : goal.loop-i-preserved
loop-i-preserved c = (length-set c.loop-i.set c.loop-i.i 0 ∙ c.loop-i.invariant.0, cleared_on c.loop-i.i (omega (arith, c.requires, c.loop-i.invariant.0)) c.loop-i.invariant.1)

pub shape_of-set : goal.shape_of-set
shape_of-set c = c.loop-i.invariant.0

pub returns : goal.returns
returns c = (c.loop-i.invariant.0, none_all (omega arith) c.loop-i.invariant.1)
