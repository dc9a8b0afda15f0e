-- Every node before the one that is looked at is right, and heads and links stand before it.
use native.Mathlib.Omega.{arith}
use mathlib.Core.Path.{◌≡◌, refl, sym, ap, ◌∙◌, subst}
use borrow.Author.Tests.{lt-ltb}
use lib.Dec.{ltb}
use lib.ListN.{length}
use Prim.Native.Nat.{ℕ, ◌-◌, ◌≤◌, ◌<◌}
use Rattle.definition.specs.Tables.{first_child}
use Rattle.table_laws.specs.Least.{RightBelow}
use Rattle.table.specs.Words.{Kept}
use Rattle.table.proofs.Along.{child_along, ends_along, next_inside}
use Rattle.table.proofs.Cursor.{found_members, next_first, right_next}
use borrow.Author.Rules.{rules}
use Rattle.table.proofs.scan.members.Goals as goal

pub loop-node-init : goal.loop-node-init
loop-node-init c = (omega arith, omega arith, c.requires.begun.first_is, c.requires.begun.right, c.requires.parent_value.1, refl, refl)

pub member_steps-requires : goal.member_steps-requires
member_steps-requires c =
    let h = child_along c.args.table.now c.args.text.now c.args.start c.args.begin c.args.above c.requires.begun c.loop-node.node c.loop-node.invariant.0 c.loop-node-test.true in
    record { child = (h, c.loop-node.invariant.2); parent_value = (c.requires.parent_value.0, found_members c.args.table.now c.loop-node.node c.args.above h.under c.args.text.now h.node_in c.loop-node.invariant.3 c.requires.parent_value.0); kept = c.loop-node.invariant.4; known = c.requires.known }

pub returns-in_default : goal.returns-in_default
returns-in_default c =
    let h = child_along c.args.table.now c.args.text.now c.args.start c.args.begin c.args.above c.requires.begun c.loop-node.node c.loop-node.invariant.0 c.loop-node-test.true in
    record { passed_by = record { node_in = h.node_in; right = c.loop-node.invariant.3; wrong = sym c.in_default.ensures.result_value }; kept = tt }

pub child_count-requires : goal.child_count-requires
child_count-requires c = (child_along c.args.table.now c.args.text.now c.args.start c.args.begin c.args.above c.requires.begun c.loop-node.node c.loop-node.invariant.0 c.loop-node-test.true).node_in

pub overflow_add-first : goal.overflow_add-first
overflow_add-first c =
    let h = child_along c.args.table.now c.args.text.now c.args.start c.args.begin c.args.above c.requires.begun c.loop-node.node c.loop-node.invariant.0 c.loop-node-test.true in
    let r = sym c.in-Some.ensures.result_value in
    omega (arith, h.small, next_inside c.args.table.now c.args.text.now c.loop-node.node c.loop-node.first c.child_count.result h.node_in c.loop-node.invariant.2 c.loop-node.invariant.3 r c.child_count.ensures)

pub returns-then-steps-eq-LONG_CHAIN : goal.returns-then-steps-eq-LONG_CHAIN
returns-then-steps-eq-LONG_CHAIN c =
    let r = sym c.in-Some.ensures.result_value in
    record { passed_by = record { later = omega (arith, c.loop-node.invariant.0); reach = omega arith; right = right_next c.args.table.now c.args.text.now c.loop-node.node c.loop-node.invariant.3 r; first_is = next_first c.args.table.now c.args.text.now c.loop-node.node c.loop-node.first c.child_count.result c.loop-node.invariant.2 c.child_count.ensures }; kept = c.in-Some.ensures.kept_2 }

pub loop-node-preserved : goal.loop-node-preserved
loop-node-preserved c =
    let r = sym c.in-Some.ensures.result_value in
    (omega (arith, c.loop-node.invariant.0), omega arith, next_first c.args.table.now c.args.text.now c.loop-node.node c.loop-node.first c.child_count.result c.loop-node.invariant.2 c.child_count.ensures, right_next c.args.table.now c.args.text.now c.loop-node.node c.loop-node.invariant.3 r, c.in-Some.ensures.kept_2, search rules, search rules)

pub returns : goal.returns
returns c =
    let e : c.loop-node.node ≡ c.args.above.end = omega arith in
    record { passed_by = ends_along c.requires.begun e c.loop-node.invariant.3 c.loop-node.invariant.2; kept = subst (λ (n : ℕ). Kept c.args.table.now c.args.text.now n c.args.above c.loop-node.heads c.loop-node.links) e c.loop-node.invariant.4 }
