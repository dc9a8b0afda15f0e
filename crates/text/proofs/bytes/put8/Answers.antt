-- `text::bytes::put8` meets its contract.
use mathlib.Core.Path.{refl}
use Rattle.definition.specs.Bytes.{little_endian}
use Rattle.text.proofs.bytes.put8.Goals as goal

pub returns : goal.returns
unfolding little_endian
returns c = record { is = refl }
