-- Every node before the one that is looked at is right, and the place where its children must begin is known.
use native.Mathlib.Omega.{arith}
use mathlib.Core.Path.{◌≡◌, refl, sym, ◌∙◌}
use borrow.Author.Tests.{not-true, not-false}
use Prim.Native.Nat.{◌-◌, ◌≤◌}
use Rattle.definition.specs.Tables.{first_child}
use Rattle.table_laws.specs.Least.{RightBelow}
use Rattle.table.proofs.Along.{child_along, ends_along, next_inside}
use Rattle.table.proofs.Cursor.{next_first, right_next}
use borrow.Author.Rules.{rules}
use mathlib.Core.Path.{ap}
use mathlib.Core.Bool.{not}
use Rattle.table.proofs.scan.items.Goals as goal

pub loop-node-init : goal.loop-node-init
loop-node-init c = (omega arith, omega arith, c.requires.begun.first_is, c.requires.begun.right)

pub item_right-requires : goal.item_right-requires
item_right-requires c = record { child = (child_along c.args.table.now c.args.text.now c.args.start c.args.begin c.args.above c.requires.begun c.loop-node.node c.loop-node.invariant.0 c.loop-node-test.true, c.loop-node.invariant.2); fact = c.requires.fact; known = c.requires.known }

pub returns-then-not-item_right : goal.returns-then-not-item_right
returns-then-not-item_right c =
    let h = child_along c.args.table.now c.args.text.now c.args.start c.args.begin c.args.above c.requires.begun c.loop-node.node c.loop-node.invariant.0 c.loop-node-test.true in
    record { node_in = h.node_in; right = c.loop-node.invariant.3; wrong = sym c.item_right.ensures ∙ not-true _ (ap not c.if-not-item_right.true) }

pub child_count-requires : goal.child_count-requires
child_count-requires c = (child_along c.args.table.now c.args.text.now c.args.start c.args.begin c.args.above c.requires.begun c.loop-node.node c.loop-node.invariant.0 c.loop-node-test.true).node_in

pub overflow_add-first : goal.overflow_add-first
overflow_add-first c =
    let h = child_along c.args.table.now c.args.text.now c.args.start c.args.begin c.args.above c.requires.begun c.loop-node.node c.loop-node.invariant.0 c.loop-node-test.true in
    let r = sym c.item_right.ensures ∙ not-false _ (ap not c.if-not-item_right.false) in
    omega (arith, h.small, next_inside c.args.table.now c.args.text.now c.loop-node.node c.loop-node.first c.child_count.result h.node_in c.loop-node.invariant.2 c.loop-node.invariant.3 r c.child_count.ensures)

pub loop-node-preserved : goal.loop-node-preserved
loop-node-preserved c =
    let r = sym c.item_right.ensures ∙ not-false _ (ap not c.if-not-item_right.false) in
    (omega (arith, c.loop-node.invariant.0), omega arith, next_first c.args.table.now c.args.text.now c.loop-node.node c.loop-node.first c.child_count.result c.loop-node.invariant.2 c.child_count.ensures, right_next c.args.table.now c.args.text.now c.loop-node.node c.loop-node.invariant.3 r)

pub returns : goal.returns
returns c = ends_along c.requires.begun (omega arith) c.loop-node.invariant.3 c.loop-node.invariant.2
