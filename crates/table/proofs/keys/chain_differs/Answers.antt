-- The loop's invariant: the keys above the present node are unlike the key, and the node is in the key's bucket or below the first one.
-- So many steps were made as nodes may have been passed. The measure is the present node: links lead downwards.
use native.Mathlib.Omega.{arith}
use mathlib.Core.Path.{◌≡◌, sym, ◌∙◌, ap}
use Prim.Native.Nat.{◌+◌, ◌-◌, ◌≤◌}
use borrow.Author.Tests.{lt-ltb}
use Rattle.definition.specs.Bytes.{same_bytes}
use Rattle.definition.specs.Tables.{key_bytes}
use Rattle.table.proofs.Inside.{one_key}
use Rattle.table.proofs.Follows.{Following, follow_begins, follow_on, differs_all, differs_not}
use Rattle.table.proofs.keys.chain_differs.Goals as goal

pub loop-j-init : goal.loop-j-init
loop-j-init c = (record { below = c.requires.chain.latest.earlier; count = c.requires.chain.count; linked = c.requires.chain.linked; same = c.requires.chain.latest.same; unlike = follow_begins c.args.table.now c.args.text.now c.args.node c.requires.chain.count c.args.from c.args.head c.requires.chain.latest }, omega arith, omega arith)

pub same_key-requires : goal.same_key-requires
same_key-requires c = one_key c.args.table.now c.args.text.now c.args.from (c.args.node + 1) c.requires.joins.inside c.loop-j.j (omega arith) (omega arith)

pub returns-then-same_key : goal.returns-then-same_key
returns-then-same_key c =
    let e = ap (same_bytes (key_bytes c.args.table.now c.args.text.now c.loop-j.j)) (sym c.requires.key_value) ∙ sym c.same_key.ensures ∙ c.if-same_key.true in
    sym (differs_not c.args.table.now c.args.text.now c.args.node c.args.from c.loop-j.j (omega arith) c.loop-j.invariant.0.below e)

pub loop-j-smaller : goal.loop-j-smaller
loop-j-smaller c = (c.loop-j.invariant.0.linked.before c.loop-j.j (omega arith) c.loop-j.invariant.0.below).earlier

pub loop-j-preserved : goal.loop-j-preserved
loop-j-preserved c =
    let t : c.args.from ≤ c.loop-j.j = omega arith in
    let b = c.loop-j.invariant.0.same t in
    let n = c.loop-j.invariant.0.linked.before c.loop-j.j t c.loop-j.invariant.0.below in
    let o = n.earlier in
    let d = ap (same_bytes (key_bytes c.args.table.now c.args.text.now c.loop-j.j)) (sym c.requires.key_value) ∙ sym c.same_key.ensures ∙ c.if-same_key.false in
    (record { below = omega arith; count = c.loop-j.invariant.0.count; linked = c.loop-j.invariant.0.linked; same = λ u. n.same u ∙ b; unlike = follow_on c.args.table.now c.args.text.now c.args.node c.loop-j.invariant.0.count c.args.from c.loop-j.j _ c.loop-j.invariant.0.below b n d c.loop-j.invariant.0.unlike }, omega arith, omega arith)

pub returns : goal.returns
returns c = sym (differs_all c.args.table.now c.args.text.now c.args.node c.args.from c.loop-j.j c.requires.joins.from_le c.loop-j-test.false c.loop-j.invariant.0.unlike)
