-- `pick_elements` meets its contract: what is left of the selectors gives the whole.
use Rattle.eval_shortcuts.specs.Picked.{InPick}
use Rattle.eval_shortcuts.proofs.several.pick_elements.Given as goal

abbrev pub invariant-loop : goal.invariant-loop
invariant-loop l = InPick l.plan l.pool l.table l.text l.node l.p l.n l.cap l.initial.list l.at l.list l.a l.q l.counter
