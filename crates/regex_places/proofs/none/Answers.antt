-- `regex_places::none` meets its contract.
use Rattle.regex_places.proofs.Sets.{none_start, none_on, none_all}
use mathlib.Core.Bool.{false≢true}
use native.Mathlib.Omega.{arith}
use Rattle.regex_places.proofs.none.Goals as goal

pub loop-i-init : goal.loop-i-init
loop-i-init c = none_start

pub bounds-set-i : goal.bounds-set-i
bounds-set-i c = omega (arith, c.requires)

pub returns-then-set-i-eq1 : goal.returns-then-set-i-eq1
returns-then-set-i-eq1 c = λ e. absurd (false≢true e)

pub loop-i-preserved : goal.loop-i-preserved
loop-i-preserved c = none_on c.loop-i.i c.if-set-i-eq1.false c.loop-i.invariant

pub returns : goal.returns
returns c = λ e. none_all (omega arith) c.loop-i.invariant
