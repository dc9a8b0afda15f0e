-- `regex_plain::find` meets its contract.
use Rattle.regex_plain.proofs.Texts.{hunt_start, hunt_found, hunt_more, hunt_end}
use native.Mathlib.Omega.{arith}
use Rattle.regex_plain.proofs.find.Goals as goal

pub loop-i-init : goal.loop-i-init
loop-i-init c = hunt_start _ _

pub begins-requires : goal.begins-requires
begins-requires c = record { fact_1 = c.requires; fact_2 = omega (arith, c.loop-i-test.true); fact_3 = omega arith }

pub returns-in-Some : goal.returns-in-Some
returns-in-Some c = hunt_found _ _ _ _ _ c.loop-i.invariant c.in-Some.ensures

pub char_at-i-requires : goal.char_at-i-requires
char_at-i-requires c = record { fact_1 = c.loop-i-test.true; fact_2 = omega arith }

pub loop-i-smaller : goal.loop-i-smaller
loop-i-smaller c = omega (arith, c.char_at-i.ensures.after, c.char_at-i.ensures.within)

pub loop-i-preserved : goal.loop-i-preserved
loop-i-preserved c = hunt_more _ _ _ _ _ c.loop-i.invariant c.in-None.ensures c.loop-i-test.true c.char_at-i.ensures

pub returns : goal.returns
returns c = hunt_end _ _ _ _ _ c.loop-i.invariant c.loop-i-test.false
