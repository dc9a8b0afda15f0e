-- All records before the one that is looked at are right.
use native.Mathlib.Omega.{arith}
use borrow.Author.Tests.{not-true, not-false}
use mathlib.Core.Path.{◌≡◌, sym, ◌∙◌}
use Prim.Native.Nat.{◌-◌, ◌≤◌}
use Rattle.definition.specs.Tables.{node_count, first_child, record_right}
use Rattle.table_laws.specs.Counts.{counts_root}
use Rattle.table_laws.specs.Failing.{least_found, none_fails}
use Rattle.table_laws.specs.Records.{RecordsBelow}
use Rattle.table.specs.Outcomes.{found}
use Rattle.table.proofs.Checks.{record_next}
use borrow.Author.Rules.{rules}
use mathlib.Core.Path.{ap}
use mathlib.Core.Bool.{not}
use Rattle.table.proofs.structure.over_records.Goals as goal

pub loop-node-init : goal.loop-node-init
loop-node-init c = (omega (arith, counts_root c.args.table.now), c.requires.0, λ k l. absurd (omega arith))

pub record_right-requires : goal.record_right-requires
record_right-requires c = (omega arith, c.loop-node.invariant.0, c.loop-node.invariant.2)

pub returns-then-not-record_right : goal.returns-then-not-record_right
unfolding found
returns-then-not-record_right c = sym (least_found (record_right c.args.table.now) c.loop-node.node (node_count c.args.table.now) c.loop-node.invariant.2 (sym c.record_right.ensures ∙ not-true _ (ap not c.if-not-record_right.true)) (omega arith))

pub overflow_add-first : goal.overflow_add-first
overflow_add-first c =
    let w = record_next c.args.table.now c.loop-node.node c.loop-node.first c.child_count.result c.loop-node.invariant.0 c.child_count.ensures c.loop-node.invariant.1 c.loop-node.invariant.2 (sym c.record_right.ensures ∙ not-false _ (ap not c.if-not-record_right.false)) in
    omega (arith, w.1, c.requires.1)

pub loop-node-preserved : goal.loop-node-preserved
loop-node-preserved c = record_next c.args.table.now c.loop-node.node c.loop-node.first c.child_count.result c.loop-node.invariant.0 c.child_count.ensures c.loop-node.invariant.1 c.loop-node.invariant.2 (sym c.record_right.ensures ∙ not-false _ (ap not c.if-not-record_right.false))

pub returns : goal.returns
unfolding found
returns c = sym (none_fails (record_right c.args.table.now) (node_count c.args.table.now) (λ k m. c.loop-node.invariant.2 k (omega arith)))
