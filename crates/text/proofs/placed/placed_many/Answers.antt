-- `text::placed::placed_many` meets its contract: four times sixteen bytes, one behind another.
use mathlib.Core.Path.{refl}
use mathlib.Core.Bool.{and-eq-true_iff}
use Rattle.text.proofs.Along.{placed_four}
use Rattle.text.proofs.placed.placed_many.Goals as goal

pub returns : goal.returns
returns c =
    λ z.
    let t = (and-eq-true_iff _ c.placed_few-4.result).0 z in
    let u = (and-eq-true_iff _ c.placed_few-3.result).0 t.0 in
    let v = (and-eq-true_iff c.placed_few.result c.placed_few-2.result).0 u.0 in
    placed_four c.args.s.now c.args.at 16 32 48 64 refl refl refl (c.placed_few.ensures v.0) (c.placed_few-2.ensures v.1) (c.placed_few-3.ensures u.1) (c.placed_few-4.ensures t.1)
