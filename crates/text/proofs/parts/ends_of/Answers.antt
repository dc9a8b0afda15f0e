-- `text::parts::ends_of` meets its contract.
use mathlib.Core.Path.{refl}
use Rattle.text.proofs.parts.ends_of.Goals as goal

pub returns : goal.returns
returns c = record { long = refl; least = c.requires.0; most = c.requires.1; bytes = λ k. (c.type_inv.a k).fits; first = c.word32-low.ensures; last = c.word32-high.ensures }
