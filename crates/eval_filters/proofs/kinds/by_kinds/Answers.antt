-- `by_kinds` meets its contract.
use native.Mathlib.Omega.{arith}
use Prim.Native.Nat.{ℕ}
use mathlib.Core.Path.{sym, subst}
use Rattle.eval_items.specs.LeafLaws.{literal_room}
use Rattle.eval_filters.specs.Tests.{DoneNode}
use Rattle.eval_filters.specs.Kinds.{differs_done}
use Rattle.eval_filters.proofs.kinds.by_kinds.Goals as goal

pub bounds-plan-q : goal.bounds-plan-q
bounds-plan-q c = omega (arith, (literal_room _ _ _ c.requires.ask_node.literal).two_bytes)

pub with_integer-requires : goal.with_integer-requires
with_integer-requires c = record { ask_node = c.requires.ask_node; q_value = (c.if-k-eq-INTEGER.true, λ e. c.requires.fact c.if-k-eq-INTEGER.true e) }

pub returns-then-op-eq-EQ : goal.returns-then-op-eq-EQ
returns-then-op-eq-EQ c = subst (λ (o : ℕ). DoneNode c.args.plan.now c.args.pool.now c.args.table.now c.args.text.now c.args.m c.args.q o c.same_constant-b.result) (sym c.if-op-eq-EQ.true) c.same_constant-b.ensures

pub returns-then-op-le-NE : goal.returns-then-op-le-NE
returns-then-op-le-NE c = differs_done c.requires.ask_node _ c.same_constant-b.ensures _ (omega (arith, c.if-op-le-NE.true, c.if-op-eq-EQ.false))
