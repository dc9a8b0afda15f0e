-- `compare_nodes` meets its contract.
use Prim.Native.Nat.{ℕ}
use mathlib.Core.List.{[]}
use mathlib.Core.Path.{sym, ap, subst}
use Rattle.definition.specs.Tables.{node_at}
use Rattle.definition.specs.Compare.{Value, node_value}
use Rattle.number_integers.specs.Signs.{back}
use Rattle.eval_values.specs.Alike.{Compares}
use Rattle.eval_values.specs.declared.Operand.TheVariants.{Int, Float}
use Rattle.eval_filters.specs.Tests.{compares_as}
use Rattle.eval_filters.specs.Pairs.{nodes_done}
use Rattle.eval_filters.proofs.pairs.compare_nodes.Goals as goal

pub returns-then-k-eq-KIND_INTEGER : goal.returns-then-k-eq-KIND_INTEGER
returns-then-k-eq-KIND_INTEGER c = nodes_done c.requires _ _ [] (Int _) (Int _) c.node_int-a.ensures c.node_int-b.ensures (compares_as _ _ (ap Value.integer (back c.node_int-a.result c.node_int-a.type_inv)) (ap Value.integer (back c.node_int-b.result c.node_int-b.type_inv)) c.compare_ints.ensures)

pub compare_floats-requires : goal.compare_floats-requires
compare_floats-requires c = (c.node_float-a.ensures.fine [], c.node_float-b.ensures.fine [])

pub returns-then-k-eq-KIND_FLOAT : goal.returns-then-k-eq-KIND_FLOAT
returns-then-k-eq-KIND_FLOAT c = nodes_done c.requires _ _ [] (Float _) (Float _) c.node_float-a.ensures c.node_float-b.ensures c.compare_floats.ensures

pub returns-then-op-eq-EQ : goal.returns-then-op-eq-EQ
returns-then-op-eq-EQ c = subst (λ (o : ℕ). Compares (node_value (node_at c.args.table.now c.args.text.now c.args.m)) (node_value (node_at c.args.table.now c.args.text.now c.args.n)) o c.same_texts.result) (sym c.if-op-eq-EQ.true) c.same_texts.ensures
