-- `slices::index_place` meets its contract. n is added once, and the element there is the answer.
use mathlib.Core.Path.{◌∙◌, ap}
use mir.Syntax.{w64}
use mir.ValLaws.{to_z-of_z}
use Rattle.definition.specs.Slices.{index_places, element_at, add_once}
use Rattle.slices.proofs.Signs.{same}
use Rattle.slices.proofs.index_place.Goals as goal

pub returns : goal.returns
unfolding index_places
returns c =
    c.element_at.ensures
    ∙ ap (element_at c.args.n) (same c.add_once.result c.add_once.type_inv ∙ c.add_once.ensures ∙ ap (add_once c.args.n) (to_z-of_z w64 c.args.i c.ranges.i))
