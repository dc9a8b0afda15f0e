-- `skip_selectors` meets its contract. The loop's invariant: for all selectors there, n + 1 - m of them are left at q and end where all end.
use lib.ListN.{length}
use Prim.Native.Nat.{ℕ, ◌+◌, ◌-◌}
use mathlib.Core.Path.{◌≡◌}
use Rattle.eval_laws.specs.Bytes.{Holds}
use Rattle.definition.specs.Plans.{code_selectors}
use Rattle.definition.specs.Forms.{Selectors, many_selectors}
use Rattle.eval_items.specs.EndLaws.{Left}
use Rattle.eval_items.proofs.plans.skip_selectors.Given as goal

abbrev pub invariant-loop-m : goal.invariant-loop-m
invariant-loop-m l = (ss : Selectors) (k : ℕ) → Holds l.plan l.p (code_selectors ss k) → many_selectors ss ≡ l.n → (rs : Selectors) × (j : ℕ) × Left l.plan l.q (l.n + 1 - l.m) (l.p + length (code_selectors ss k)) rs j
