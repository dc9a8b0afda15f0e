-- `eval_shortcuts::flats::skip_flats` meets its contract: no node that is passed has a list or a map among its children.
use Prim.Native.Nat.{◌-◌}
use Rattle.eval_shortcuts.specs.Flats.{DoneSkipped}
use Rattle.eval_shortcuts.proofs.flats.skip_flats.Given as goal

abbrev pub invariant-loop-j : goal.invariant-loop-j
invariant-loop-j l = DoneSkipped l.table l.i l.e l.j

abbrev pub decreases-loop-j : goal.decreases-loop-j
decreases-loop-j l = l.e - l.j
