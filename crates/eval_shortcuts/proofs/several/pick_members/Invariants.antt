-- `pick_members` meets its contract: what is left of the selectors gives the whole.
use mathlib.Core.Path.{◌≡◌}
use lib.ListN.{length}
use Rattle.eval_shortcuts.specs.Picked.{InPick}
use Rattle.eval_shortcuts.proofs.several.pick_members.Given as goal

abbrev pub invariant-loop-m : goal.invariant-loop-m
invariant-loop-m l = (length l.near ≡ length l.initial.near) × InPick l.plan l.pool l.table l.text l.node l.p l.n l.cap l.initial.list l.at l.list l.a l.q l.m
