-- Every text before the one that is looked at is right.
use native.Mathlib.Omega.{arith}
use borrow.Author.Tests.{not-false}
use mathlib.Core.Bool.{true}
use mathlib.Core.Path.{◌≡◌, subst}
use Prim.Native.Nat.{ℕ, ◌-◌, ◌≤◌}
use Rattle.table.specs.Words.{Front}
use Rattle.table.proofs.Front.{front_root, front_next}
use borrow.Author.Rules.{rules}
use mathlib.Core.Path.{ap}
use mathlib.Core.Bool.{not}
use Rattle.table.proofs.scan.root_texts.Goals as goal

pub loop-node-init : goal.loop-node-init
loop-node-init c =
    let f = front_root c.args.table.now c.args.text.now c.requires.known.1 in
    (omega (arith, f.reach, c.requires.root_list.1), f)

pub root_text_right-requires : goal.root_text_right-requires
root_text_right-requires c = record { root_list = (c.requires.root_list.0, omega (arith, c.loop-node.invariant.1.some), omega (arith, c.loop-node-test.true, c.requires.root_list.1)); known = c.requires.known.0 }

pub returns-then-not-root_text_right : goal.returns-then-not-root_text_right
returns-then-not-root_text_right c = c.loop-node.invariant.1

pub loop-node-preserved : goal.loop-node-preserved
loop-node-preserved c =
    let y : c.root_text_right.result ≡ true = not-false _ (ap not c.if-not-root_text_right.false) in
    (omega arith, front_next c.args.table.now c.args.text.now c.loop-node.node c.requires.root_list.0 c.loop-node.invariant.1 (omega (arith, c.requires.root_list.1)) (c.root_text_right.ensures.node_value y) (c.root_text_right.ensures.node_value_2 y))

pub returns : goal.returns
returns c =
    let e : c.loop-node.node ≡ c.args.end = omega (arith, c.loop-node.invariant.0) in
    subst (λ (n : ℕ). Front c.args.table.now c.args.text.now n) e c.loop-node.invariant.1
