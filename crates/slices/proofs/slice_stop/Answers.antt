-- `slices::slice_stop` meets its contract. The three steps of the definition, one call each.
use native.Mathlib.Omega.{arith}
use mir.Syntax.{w64}
use mir.ValLaws.{to_z-of_z, to_z_pos}
use Rattle.definition.specs.Slices.{slice_stop}
use Rattle.slices.proofs.Signs.{same}
use Rattle.slices.proofs.Bounds.{stop_in_range}
use Rattle.slices.proofs.slice_stop.Goals as goal

pub add_once-requires : goal.add_once-requires
add_once-requires c = (
  c.requires.0,
  rw (same c.given_stop-z.result c.given_stop-z.type_inv, c.given_stop-z.ensures, to_z-of_z w64 c.args.stop c.ranges.stop, to_z-of_z w64 c.args.step c.ranges.step)
      (stop_in_range c.args.n c.args.has_stop c.args.stop c.args.step c.requires.0 c.requires.1),
)

pub returns : goal.returns
unfolding slice_stop
returns c =
    rw (
      same c.clamped.result c.clamped.type_inv,
      c.clamped.ensures,
      to_z_pos w64 c.args.n (omega arith),
      same c.add_once.result c.add_once.type_inv,
      c.add_once.ensures,
      same c.given_stop-z.result c.given_stop-z.type_inv,
      c.given_stop-z.ensures,
      to_z-of_z w64 c.args.stop c.ranges.stop,
      to_z-of_z w64 c.args.step c.ranges.step,
    )
