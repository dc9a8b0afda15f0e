-- `number_order::float_of` meets its contract: the pattern is a finite float's.
use Rattle.number_order.specs.Finite.{bits_finite}
use mathlib.Core.Path.{refl}
use Rattle.number_order.proofs.Patterns.{bits_number}
use Rattle.number_order.proofs.float_of.Goals as goal

pub float_from_bits-result : goal.float_from_bits-result
float_from_bits-result c = bits_number c.args.b c.requires

pub returns : goal.returns
returns c = (refl, bits_finite c.args.b c.requires)
