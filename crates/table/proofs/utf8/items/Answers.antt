-- Every node before the one that is looked at is right, and the place where its children must begin is known.
use native.Mathlib.Omega.{arith}
use mathlib.Core.Path.{◌≡◌, refl, sym, ◌∙◌}
use Prim.Native.Nat.{◌-◌, ◌≤◌}
use Rattle.definition.specs.Tables.{child_count, first_child}
use Rattle.table_laws.specs.Least.{RightBelow}
use Rattle.table.proofs.Along.{child_along, ends_along}
use Rattle.table.proofs.Cursor.{next_first, right_next}
use borrow.Author.Rules.{rules}
use Rattle.table.proofs.utf8.items.Goals as goal

pub loop-node-init : goal.loop-node-init
loop-node-init c = (c.front-behind.ensures.later, c.front-behind.ensures.reach, c.requires.begun.first_is ∙ sym c.front-behind.ensures.first_is, c.front-behind.ensures.right)

pub item_next-requires : goal.item_next-requires
item_next-requires c = record { child = (child_along c.args.table.now c.args.text.now c.args.start c.args.begin c.args.above c.requires.begun c.loop-node.node c.loop-node.invariant.0 c.loop-node-test.true, c.loop-node.invariant.2); fact = c.requires.fact; known = c.requires.known }

pub returns-in_default : goal.returns-in_default
returns-in_default c =
    let h = child_along c.args.table.now c.args.text.now c.args.start c.args.begin c.args.above c.requires.begun c.loop-node.node c.loop-node.invariant.0 c.loop-node-test.true in
    record { node_in = h.node_in; right = c.loop-node.invariant.3; wrong = c.in_default.ensures }

pub loop-node-preserved : goal.loop-node-preserved
loop-node-preserved c =
    let x = next_first c.args.table.now c.args.text.now c.loop-node.node (first_child c.args.table.now c.loop-node.node) (child_count c.args.table.now c.loop-node.node) refl refl in
    (omega (arith, c.loop-node.invariant.0), omega arith, c.in-Some.ensures.1 ∙ x, right_next c.args.table.now c.args.text.now c.loop-node.node c.loop-node.invariant.3 c.in-Some.ensures.0)

pub returns : goal.returns
returns c = ends_along c.requires.begun (omega arith) c.loop-node.invariant.3 c.loop-node.invariant.2
