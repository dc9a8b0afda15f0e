-- `slices::walk_between` meets its contract. The signed numbers are turned into places, and the sign of the step decides.
use mir.Syntax.{w64}
use lib.IntN.{pos, negsuc}
use mir.ValLaws.{to_z-of_z}
use Rattle.definition.specs.Limits.{max_nodes}
use Rattle.slices.proofs.Bounds.{between_more, sized_pos}
use Rattle.slices.proofs.Answers.{Turned, turned_bounds, turned_down, turned_up}
use Rattle.slices.proofs.walk_between.Goals as goal

pub place_of-at-requires : goal.place_of-at-requires
place_of-at-requires c = rw (to_z-of_z w64 c.args.from c.ranges.from) (between_more (pos 0) c.args.from c.args.n max_nodes c.requires.0 c.requires.1)

pub place_behind-end-requires : goal.place_behind-end-requires
place_behind-end-requires c = rw (to_z-of_z w64 c.args.to c.ranges.to) (between_more (negsuc 0) c.args.to c.args.n max_nodes c.requires.0 c.requires.2)

pub walk_down-requires : goal.walk_down-requires
walk_down-requires c =
    let t : Turned c.args.from c.args.to c.args.by c.place_of-at.result c.place_behind-end.result c.size-step.result = record {
      start = rw (to_z-of_z w64 c.args.from c.ranges.from) at c.place_of-at.ensures;
      stop = rw (to_z-of_z w64 c.args.to c.ranges.to) at c.place_behind-end.ensures;
      size = rw (to_z-of_z w64 c.args.by c.ranges.by) at c.size-step.ensures;
    } in
    let b = turned_bounds c.args.n _ _ _ _ _ _ t c.requires.1 c.requires.2 in
    let h = rw (to_z-of_z w64 c.args.by c.ranges.by) at c.if-by-lt0.true in
    (c.requires.0, b.0, b.1, sized_pos c.size-step.result c.args.by t.size h)

pub returns-then-by-lt0 : goal.returns-then-by-lt0
returns-then-by-lt0 c =
    let t : Turned c.args.from c.args.to c.args.by c.place_of-at.result c.place_behind-end.result c.size-step.result = record {
      start = rw (to_z-of_z w64 c.args.from c.ranges.from) at c.place_of-at.ensures;
      stop = rw (to_z-of_z w64 c.args.to c.ranges.to) at c.place_behind-end.ensures;
      size = rw (to_z-of_z w64 c.args.by c.ranges.by) at c.size-step.ensures;
    } in
    let h = rw (to_z-of_z w64 c.args.by c.ranges.by) at c.if-by-lt0.true in
    turned_down c.args.n _ _ _ _ _ _ t c.walk_down.result h c.walk_down.ensures

pub walk_up-requires : goal.walk_up-requires
walk_up-requires c =
    let t : Turned c.args.from c.args.to c.args.by c.place_of-at.result c.place_behind-end.result c.size-step.result = record {
      start = rw (to_z-of_z w64 c.args.from c.ranges.from) at c.place_of-at.ensures;
      stop = rw (to_z-of_z w64 c.args.to c.ranges.to) at c.place_behind-end.ensures;
      size = rw (to_z-of_z w64 c.args.by c.ranges.by) at c.size-step.ensures;
    } in
    let b = turned_bounds c.args.n _ _ _ _ _ _ t c.requires.1 c.requires.2 in
    (c.requires.0, b.0, b.1)

pub returns : goal.returns
returns c =
    let t : Turned c.args.from c.args.to c.args.by c.place_of-at.result c.place_behind-end.result c.size-step.result = record {
      start = rw (to_z-of_z w64 c.args.from c.ranges.from) at c.place_of-at.ensures;
      stop = rw (to_z-of_z w64 c.args.to c.ranges.to) at c.place_behind-end.ensures;
      size = rw (to_z-of_z w64 c.args.by c.ranges.by) at c.size-step.ensures;
    } in
    let h = rw (to_z-of_z w64 c.args.by c.ranges.by) at c.if-by-lt0.false in
    turned_up c.args.n _ _ _ _ _ _ t c.walk_up.result h c.walk_up.ensures
