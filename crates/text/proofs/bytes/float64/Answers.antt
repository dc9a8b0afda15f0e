-- `text::bytes::float64` meets its contract.
use mathlib.Core.Path.{ap}
use lib.Ieee.{binary64, of_bits}
use Rattle.text.proofs.bytes.float64.Goals as goal

pub float_from_bits-result : goal.float_from_bits-result
float_from_bits-result c = rw (c.word64.ensures.is, c.requires.at_value) tt

pub returns : goal.returns
returns c = ap (of_bits binary64) c.word64.ensures.is
