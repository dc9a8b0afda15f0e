-- `compare_node` meets its contract.
use Rattle.eval_filters.specs.Tests.{DoneNode}
use Rattle.eval_filters.specs.Kinds.{differs_done}
use Rattle.eval_items.specs.LeafLaws.{literal_room}
use native.Mathlib.Omega.{arith}
use Prim.Native.Nat.{ℕ}
use mathlib.Core.Path.{sym, subst, ◌∙◌}
use Rattle.eval_filters.proofs.compare_node.Goals as goal
use Rattle.eval_filters.proofs.compare_node.Goals.{then-k-eq-INTEGER+else-kind-eq-KIND_INTEGER, else-k-eq-INTEGER}

pub bounds-plan-q : goal.bounds-plan-q
bounds-plan-q c = omega (arith, (literal_room _ _ _ c.requires.literal).two_bytes)

pub returns-then-op-eq-EQ : goal.returns-then-op-eq-EQ
returns-then-op-eq-EQ c = subst (λ (o : ℕ). DoneNode c.args.plan.now c.args.pool.now c.args.table.now c.args.text.now c.args.m c.args.q o c.same_text-b.result) (sym c.if-op-eq-EQ.true) c.same_text-b.ensures

pub returns-then-op-le-NE : goal.returns-then-op-le-NE
returns-then-op-le-NE c = differs_done c.requires _ c.same_text-b.ensures _ (omega (arith, c.if-op-le-NE.true, c.if-op-eq-EQ.false))

pub by_kinds-requires : goal.by_kinds-requires
by_kinds-requires c = record { ask_node = c.requires; fact = λ e k. elim c.if-k-eq-INTEGER.branch [ then-k-eq-INTEGER+else-kind-eq-KIND_INTEGER w ↦ w.if-kind-eq-KIND_INTEGER.false (c.kind-kind.ensures ∙ k) | else-k-eq-INTEGER w ↦ w.if-k-eq-INTEGER.false e ] }
