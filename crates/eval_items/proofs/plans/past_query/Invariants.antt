-- `past_query` meets its contract. The loop's invariant: for every query there, some rest of its segments stands at p and ends where the query ends. The measure is what is left of the plan.
use lib.ListN.{length}
use Prim.Native.Nat.{ℕ, ◌+◌, ◌-◌}
use Rattle.eval_laws.specs.Bytes.{Holds}
use Rattle.definition.specs.Plans.{code_segments}
use Rattle.definition.specs.Forms.{Segments}
use Rattle.eval_items.specs.EndLaws.{Rest}
use Rattle.eval_items.proofs.plans.past_query.Given as goal

abbrev pub invariant-loop-p : goal.invariant-loop-p
invariant-loop-p l = (f : Segments) (k : ℕ) → Holds l.plan l.pc (code_segments f k) → (g : Segments) × (j : ℕ) × Rest l.plan l.p (l.pc + length (code_segments f k)) g j

abbrev pub decreases-loop-p : goal.decreases-loop-p
decreases-loop-p l = length l.plan - l.p
