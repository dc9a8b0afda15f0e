-- Every text before the one that is looked at is right.
use native.Mathlib.Omega.{arith}
use borrow.Author.Tests.{not-false}
use mathlib.Core.Bool.{true}
use mathlib.Core.Path.{◌≡◌, subst}
use Prim.Native.Nat.{ℕ, ◌-◌}
use Rattle.table.specs.Words.{Behind}
use Rattle.table.proofs.Next.{behind_none, behind_next}
use borrow.Author.Rules.{rules}
use mathlib.Core.Path.{ap}
use mathlib.Core.Bool.{not}
use Rattle.table.proofs.utf8.texts.Goals as goal

pub loop-node-init : goal.loop-node-init
loop-node-init c = behind_none c.args.table.now c.args.text.now c.args.start c.args.end c.requires.0.begins c.requires.0.right

pub text_item_right-requires : goal.text_item_right-requires
text_item_right-requires c = (c.requires.0.listed c.loop-node.node c.loop-node.invariant.later c.loop-node-test.true, c.requires.1)

pub returns-then-not-text_item_right : goal.returns-then-not-text_item_right
returns-then-not-text_item_right c = c.loop-node.invariant

pub loop-node-preserved : goal.loop-node-preserved
loop-node-preserved c =
    let y : c.text_item_right.result ≡ true = not-false _ (ap not c.if-not-text_item_right.false) in
    behind_next c.args.table.now c.args.text.now c.args.start c.args.end c.loop-node.node c.loop-node.invariant c.loop-node-test.true (c.text_item_right.ensures.node_value y) (c.text_item_right.ensures.node_value_2 y)

pub returns : goal.returns
returns c =
    let e : c.loop-node.node ≡ c.args.end = omega (arith, c.loop-node.invariant.reach) in
    subst (λ (n : ℕ). Behind c.args.table.now c.args.text.now c.args.start c.args.end n) e c.loop-node.invariant
