-- `slices::slice_walk` meets its contract. The definition step by step; what is brought into a range lies in it.
use mir.Syntax.{w64}
use mir.ValLaws.{to_z-of_z}
use Rattle.definition.specs.Slices.{slice_places}
use Rattle.slices.proofs.Signs.{same}
use Rattle.slices.proofs.Bounds.{start_between, stop_between, step_in_range}
use Rattle.slices.proofs.slice_walk.Goals as goal

pub walk_between-requires : goal.walk_between-requires
walk_between-requires c = (
  c.requires.0,
  rw (same c.slice_start-from.result c.slice_start-from.type_inv, c.slice_start-from.ensures) (start_between c.args.n _ _),
  rw (same c.slice_stop-to.result c.slice_stop-to.type_inv, c.slice_stop-to.ensures) (stop_between c.args.n _ _),
  rw (same c.slice_step-by.result c.slice_step-by.type_inv, c.slice_step-by.ensures, to_z-of_z w64 c.args.step c.ranges.step) (step_in_range c.args.has_step c.args.step c.requires.3),
)

pub returns : goal.returns
unfolding slice_places
returns c =
    record {
      places =
          rw (
            same c.slice_start-from.result c.slice_start-from.type_inv,
            c.slice_start-from.ensures,
            same c.slice_stop-to.result c.slice_stop-to.type_inv,
            c.slice_stop-to.ensures,
            same c.slice_step-by.result c.slice_step-by.type_inv,
            c.slice_step-by.ensures,
            to_z-of_z w64 c.args.start c.ranges.start,
            to_z-of_z w64 c.args.stop c.ranges.stop,
            to_z-of_z w64 c.args.step c.ranges.step,
          )
          at c.walk_between.ensures.places;
      inside = c.walk_between.ensures.inside;
    }
