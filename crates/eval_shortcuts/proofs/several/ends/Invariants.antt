-- `ends` meets its contract: what is left of the selectors gives the whole.
use Prim.Native.Nat.{◌-◌}
use Rattle.eval_shortcuts.specs.Picks.{InEnds}
use Rattle.eval_shortcuts.proofs.several.ends.Given as goal

abbrev pub invariant-loop : goal.invariant-loop
invariant-loop l = InEnds l.plan l.p l.n l.q (l.n - l.counter)
