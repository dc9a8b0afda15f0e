-- `text::bytes::put_int64` meets its contract.
use mathlib.Core.Path.{ap, ◌∙◌}
use mir.Facts.{to_z-of_z}
use Rattle.definition.specs.Bytes.{unsigned64}
use Rattle.text.proofs.bytes.put_int64.Goals as goal

pub returns : goal.returns
returns c = rw (c.bits64.ensures ∙ ap unsigned64 (to_z-of_z c.ranges.z)) at c.put64.ensures
