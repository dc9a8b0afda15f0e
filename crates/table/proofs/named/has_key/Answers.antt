-- A number beyond the table, the root, and the kind of the parent.
use mathlib.Core.Path.{sym, ◌∙◌, ap}
use Prim.Native.Nat.{ℕ}
use lib.Dec.{eqb}
use native.Mathlib.Omega.{arith}
use Rattle.definition.specs.Tables.{kind_at, parent_at}
use Rattle.table_laws.specs.Parents.{parent_found}
use Rattle.table_laws.specs.Outcomes.{key_beyond, key_root, key_under}
use borrow.Author.Rules.{rules}
use Rattle.table.proofs.named.has_key.Goals as goal

pub returns-then-table-node : goal.returns-then-table-node
returns-then-table-node c = sym (key_beyond c.args.table.now c.args.node c.if-table-node.true)

pub returns-then-node-eq0 : goal.returns-then-node-eq0
returns-then-node-eq0 c = sym (key_root c.args.table.now c.args.node c.if-node-eq0.true)

pub kind-requires : goal.kind-requires
kind-requires c =
    let w = parent_found c.args.table.now (parent_at c.args.table.now c.args.node) c.args.node (c.requires.parent c.args.node (omega arith) (omega arith)) in
    let l = w.0 in
    omega arith

pub returns : goal.returns
returns c =
    let p = parent_at c.args.table.now c.args.node in
    ap (λ (x : ℕ). eqb x 7) (c.kind.ensures ∙ ap (kind_at c.args.table.now) c.parent-above.ensures)
    ∙ sym (key_under c.args.table.now c.args.node p (omega arith) (c.requires.parent c.args.node (omega arith) (omega arith)))
