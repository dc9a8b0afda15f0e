-- `regex_places::join` meets its contract.
use mathlib.Core.Path.{◌≡◌}
use Rattle.regex_places.proofs.Sets.{both_start, both_on}
use native.Mathlib.Omega.{arith}
use Rattle.regex_places.proofs.join.Goals as goal

pub loop-i-init : goal.loop-i-init
loop-i-init c = both_start

pub bounds-other-i : goal.bounds-other-i
bounds-other-i c = omega (arith, c.requires.1)

pub add-more-requires : goal.add-more-requires
add-more-requires c = omega (arith, c.requires.0, c.loop-i.invariant.long)

pub loop-i-preserved : goal.loop-i-preserved
loop-i-preserved c = both_on c.loop-i.i (omega (arith, c.requires.0)) c.loop-i.invariant c.add-more.ensures

pub shape_of-set : goal.shape_of-set
shape_of-set c = c.loop-i.invariant.long

pub returns : goal.returns
returns c = let e : c.loop-i.i ≡ c.args.n = omega arith in rw (← e) c.loop-i.invariant
