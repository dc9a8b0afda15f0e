-- A node that is no child of the node that its record names is wrong; otherwise that node is its parent.
use native.Mathlib.Omega.{arith}
use borrow.Author.Tests.{not-true, not-false}
use mathlib.Core.Path.{sym, ◌∙◌, subst}
use Prim.Native.Nat.{ℕ}
use Rattle.table_laws.specs.Parents.{InRange}
use Rattle.table_laws.specs.Records.{placed_depth, placed_member, placed_plain, stands_under, stands_unlike}
use borrow.Author.Rules.{rules}
use mathlib.Core.Path.{ap}
use mathlib.Core.Bool.{not}
use Rattle.table.proofs.structure.place_right.Goals as goal

pub returns-then-node-parent : goal.returns-then-node-parent
returns-then-node-parent c = sym (stands_unlike c.args.table.now c.args.node c.requires.0 (λ l g. omega arith))

pub is_child-requires : goal.is_child-requires
is_child-requires c = (omega arith, c.requires.2 c.parent-parent.result (omega arith))

pub returns-then-not-is_child : goal.returns-then-not-is_child
returns-then-not-is_child c =
    let n = c.is_child.ensures.1 (not-true _ (ap not c.if-not-is_child.true)) in
    sym (stands_unlike c.args.table.now c.args.node c.requires.0 (λ l g. n (subst (λ (x : ℕ). InRange c.args.table.now x c.args.node) (sym c.parent-parent.ensures) g)))

pub returns-then-deep-above : goal.returns-then-deep-above
returns-then-deep-above c =
    let g = c.is_child.ensures.0 (not-false _ (ap not c.if-not-is_child.false)) in
    sym (stands_under c.args.table.now c.args.node c.parent-parent.result c.if-node-parent.false g ∙ placed_depth c.args.table.now c.args.node c.parent-parent.result (omega arith))

pub returns-then-kind-eq-KIND_MAP : goal.returns-then-kind-eq-KIND_MAP
returns-then-kind-eq-KIND_MAP c =
    let g = c.is_child.ensures.0 (not-false _ (ap not c.if-not-is_child.false)) in
    sym (stands_under c.args.table.now c.args.node c.parent-parent.result c.if-node-parent.false g ∙ placed_member c.args.table.now c.args.node c.parent-parent.result (sym c.parent-parent.ensures) (omega arith) (omega arith))

pub returns : goal.returns
returns c =
    let g = c.is_child.ensures.0 (not-false _ (ap not c.if-not-is_child.false)) in
    c.no_key.ensures ∙ sym (stands_under c.args.table.now c.args.node c.parent-parent.result c.if-node-parent.false g ∙ placed_plain c.args.table.now c.args.node c.parent-parent.result (sym c.parent-parent.ensures) (omega arith) (omega arith))
