-- `rows::asked` meets its contract. The loop keeps that what is left of the filter's code gives what was wanted.
use Prim.Native.Nat.{◌-◌}
use mathlib.Core.Path.{◌≡◌}
use lib.ListN.{length}
use Rattle.eval_rows.specs.Known.{Held}
use Rattle.eval_rows.specs.Rows.{InAsked}
use Rattle.eval_rows.proofs.rows.asked.Given as goal

abbrev pub invariant-loop-q : goal.invariant-loop-q
invariant-loop-q l = InAsked l.plan l.pool l.table l.text l.root l.node l.z l.c l.acc l.q × ((length l.edges ≡ length l.initial.edges) × ((length l.sets ≡ length l.initial.sets) × ((length l.marks ≡ length l.initial.marks) × Held l.code l.edges l.sets l.known)))

abbrev pub decreases-loop-q : goal.decreases-loop-q
decreases-loop-q l = l.z - l.q
