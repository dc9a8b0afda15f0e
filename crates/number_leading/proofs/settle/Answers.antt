-- `number_leading::settle` meets its contract: the step has 53 bits of the word above it, or is a unit.
use mathlib.Core.Path.{refl}
use mathlib.Core.Logic.{inl, inr}
use native.Mathlib.Omega.{arith}
use Rattle.number_leading.proofs.settle.Goals as goal

pub split-requires : goal.split-requires
split-requires c = record { bracket = c.requires.bracket; s_value = (omega arith, omega arith, inl refl, omega arith) }

pub split-requires-2 : goal.split-requires-2
split-requires-2 c = record { bracket = c.requires.bracket; s_value = (omega arith, omega arith, inr c.requires.bound.0, omega arith) }
