-- `push_picked` meets its contract: the nodes that are left give the whole.
use Prim.Native.Nat.{◌-◌}
use mathlib.Core.Path.{◌≡◌}
use lib.ListN.{length}
use Rattle.eval_shortcuts.specs.Alongs.{InAlong}
use Rattle.eval_shortcuts.proofs.several.push_picked.Given as goal

abbrev pub invariant-loop-j : goal.invariant-loop-j
invariant-loop-j l = (length l.near ≡ 8) × InAlong l.plan l.pool l.table l.text l.i l.e l.rest l.cap l.initial.list l.at l.list l.a l.j

abbrev pub decreases-loop-j : goal.decreases-loop-j
decreases-loop-j l = l.e - l.j
