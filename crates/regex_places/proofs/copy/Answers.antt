-- `regex_places::copy` meets its contract.
use Rattle.regex_places.proofs.Sets.{same_start, same_on, same_all}
use mathlib.Core.Path.{refl}
use native.Mathlib.Omega.{arith}
use Rattle.regex_places.proofs.copy.Goals as goal

pub loop-i-init : goal.loop-i-init
loop-i-init c = same_start

pub bounds-from-i : goal.bounds-from-i
bounds-from-i c = omega (arith, c.requires.0)

pub bounds-to-i : goal.bounds-to-i
bounds-to-i c = omega (arith, c.requires.1, c.loop-i.invariant.long)

pub loop-i-preserved : goal.loop-i-preserved
loop-i-preserved c = same_on c.loop-i.i _ (omega (arith, c.requires.1)) refl c.loop-i.invariant

pub shape_of-to : goal.shape_of-to
shape_of-to c = c.loop-i.invariant.long

pub returns : goal.returns
returns c = same_all (omega arith) c.loop-i.invariant
