-- `number_nearest::nearest` meets its contract: both ways give the nearest number of steps.
use native.Mathlib.Omega.{arith}
use Rattle.number_nearest.proofs.nearest.Goals as goal

pub bits-requires : goal.bits-requires
bits-requires c = (c.in-Sure.ensures.0.fit, omega (arith, c.in-Sure.ensures.1))

pub decide-requires : goal.decide-requires
decide-requires c = (c.in-Unsure.ensures.0, c.in-Unsure.ensures.1, c.requires.1)

pub bits-requires-in-Unsure : goal.bits-requires-in-Unsure
bits-requires-in-Unsure c = (c.decide.ensures.fit, omega (arith, c.in-Unsure.ensures.1))

pub returns-in-Sure : goal.returns-in-Sure
returns-in-Sure c = record { c = _; k = _; best = c.in-Sure.ensures.0; is = c.bits.ensures }

pub returns-in-Unsure : goal.returns-in-Unsure
returns-in-Unsure c = record { c = _; k = _; best = c.decide.ensures; is = c.bits-in-Unsure.ensures }
