-- The walk keeps to the list, and has a place fewer with each turn.
use Rattle.definition.specs.Limits.{max_nodes}
use Rattle.slices.specs.Laws.{inside_more}
use Rattle.slices_vectors.proofs.print_walk.Goals as goal

pub loop-w-init : goal.loop-w-init
loop-w-init g c = c.requires.1

pub next_place-w-requires : goal.next_place-w-requires
next_place-w-requires g c = (c.loop-w-test.true, inside_more c.args.n max_nodes c.loop-w.w c.requires.0 c.loop-w.invariant)

pub loop-w-preserved : goal.loop-w-preserved
loop-w-preserved g c = c.next_place-w.ensures.inside c.args.n c.loop-w.invariant
