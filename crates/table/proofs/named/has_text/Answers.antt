-- A number beyond the table, and the kind of a node.
use mathlib.Core.Path.{sym, ◌∙◌, ap}
use Prim.Native.Nat.{ℕ}
use lib.Dec.{eqb}
use Rattle.table_laws.specs.Outcomes.{text_beyond, text_by_kind}
use borrow.Author.Rules.{rules}
use Rattle.table.proofs.named.has_text.Goals as goal

pub returns-then-table-node : goal.returns-then-table-node
returns-then-table-node c = sym (text_beyond c.args.table.now c.args.node c.if-table-node.true)

pub returns : goal.returns
returns c = ap (λ (x : ℕ). eqb x 5) c.kind.ensures ∙ sym (text_by_kind c.args.table.now c.args.node c.if-table-node.false)
