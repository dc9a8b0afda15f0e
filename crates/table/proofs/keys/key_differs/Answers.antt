-- The keys before the node are compared in turn: what is left to compare gives the answer for all.
use native.Mathlib.Omega.{arith}
use borrow.Author.Rules.{rules}
use mathlib.Core.Path.{◌≡◌, refl, sym, ◌∙◌, ap}
use Prim.Native.Nat.{◌+◌, ◌-◌, ◌≤◌}
use Rattle.definition.specs.Bytes.{same_bytes}
use Rattle.definition.specs.Tables.{key_bytes, key_differs}
use Rattle.table_laws.specs.Keys.{key_span, differs_same, differs_step, differs_end}
use Rattle.table.proofs.Inside.{one_key}
use Rattle.table.proofs.keys.key_differs.Goals as goal

pub loop-j-init : goal.loop-j-init
loop-j-init c = (omega arith, key_span c.args.table.now c.args.text.now c.args.node c.key_start-start.result (c.key_start-start.result + c.key_length.result) (omega arith) (omega arith), refl)

pub same_key-requires : goal.same_key-requires
same_key-requires c = one_key c.args.table.now c.args.text.now c.args.from (c.args.node + 1) c.requires.keys_inside c.loop-j.j c.loop-j.invariant.0 (omega arith)

pub returns-then-same_key : goal.returns-then-same_key
returns-then-same_key c =
    let s = ap (same_bytes (key_bytes c.args.table.now c.args.text.now c.loop-j.j)) (sym c.loop-j.invariant.1) ∙ sym c.same_key.ensures ∙ c.if-same_key.true in
    sym (sym c.loop-j.invariant.2 ∙ differs_same c.args.table.now c.args.text.now c.args.node c.loop-j.j c.loop-j-test.true s)

pub loop-j-preserved : goal.loop-j-preserved
loop-j-preserved c =
    let s = ap (same_bytes (key_bytes c.args.table.now c.args.text.now c.loop-j.j)) (sym c.loop-j.invariant.1) ∙ sym c.same_key.ensures ∙ c.if-same_key.false in
    (omega arith, c.loop-j.invariant.1, differs_step c.args.table.now c.args.text.now c.args.node c.loop-j.j c.loop-j-test.true s ∙ c.loop-j.invariant.2)

pub returns : goal.returns
returns c = sym (sym c.loop-j.invariant.2 ∙ differs_end c.args.table.now c.args.text.now c.args.node c.loop-j.j c.loop-j-test.false)
