-- `eval_shortcuts::flats::flat_each` meets its contract: what is left of the range gives the whole. Of the place that is looked at first nothing need be known.
use Prim.Native.Nat.{◌-◌}
use Rattle.eval_shortcuts.specs.Flats.{InFlats}
use Rattle.eval_shortcuts.proofs.flats.flat_each.Given as goal

abbrev pub invariant-loop-j : goal.invariant-loop-j
invariant-loop-j l = InFlats l.plan l.pool l.table l.text l.i l.e l.p l.cap l.initial.list l.initial.a l.list l.a l.j

abbrev pub decreases-loop-j : goal.decreases-loop-j
decreases-loop-j l = l.e - l.j
