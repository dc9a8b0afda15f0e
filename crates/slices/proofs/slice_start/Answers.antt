-- `slices::slice_start` meets its contract. The three steps of the definition, one call each.
use native.Mathlib.Omega.{arith}
use mir.Syntax.{w64}
use mir.ValLaws.{to_z-of_z, to_z_pos}
use Rattle.definition.specs.Slices.{slice_start}
use Rattle.slices.proofs.Signs.{same}
use Rattle.slices.proofs.Bounds.{start_in_range}
use Rattle.slices.proofs.slice_start.Goals as goal

pub add_once-requires : goal.add_once-requires
add_once-requires c = (
  c.requires.0,
  rw (same c.given_start-z.result c.given_start-z.type_inv, c.given_start-z.ensures, to_z-of_z w64 c.args.start c.ranges.start, to_z-of_z w64 c.args.step c.ranges.step)
      (start_in_range c.args.n c.args.has_start c.args.start c.args.step c.requires.0 c.requires.1),
)

pub returns : goal.returns
unfolding slice_start
returns c =
    rw (
      same c.clamped.result c.clamped.type_inv,
      c.clamped.ensures,
      to_z_pos w64 c.args.n (omega arith),
      same c.add_once.result c.add_once.type_inv,
      c.add_once.ensures,
      same c.given_start-z.result c.given_start-z.type_inv,
      c.given_start-z.ensures,
      to_z-of_z w64 c.args.start c.ranges.start,
      to_z-of_z w64 c.args.step c.ranges.step,
    )
