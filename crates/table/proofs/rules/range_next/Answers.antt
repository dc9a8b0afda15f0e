-- Each return is one case of the range rule.
use native.Mathlib.Omega.{arith}
use mathlib.Core.Path.{sym, ◌∙◌}
use Prim.Native.Nat.{◌+◌}
use borrow.Author.Tests.{eq-eqb, ne_eqb, le-leb, lt-leb}
use Rattle.definition.specs.Tables.{node_count, low_word, high_word}
use Rattle.table_laws.specs.Rights.{range_empty, range_unlike, range_like}
use Rattle.table.proofs.Next.{next_wrong, next_right}
use borrow.Author.Rules.{rules}
use Rattle.table.proofs.rules.range_next.Goals as goal

pub returns-then-low-ne0 : goal.returns-then-low-ne0
returns-then-low-ne0 c = next_wrong c.args.table.now c.args.node _ (range_empty c.args.table.now c.args.node (omega arith) ∙ ne_eqb (low_word c.args.table.now c.args.node) 0 (λ z. c.if-low-ne0.true (omega arith)))

pub returns-then-high-eq0 : goal.returns-then-high-eq0
returns-then-high-eq0 c = next_right c.args.table.now c.args.node _ c.args.first 0 (range_empty c.args.table.now c.args.node (omega arith) ∙ eq-eqb (low_word c.args.table.now c.args.node) 0 (omega arith)) (omega arith) (omega arith)

pub returns-then-low-first : goal.returns-then-low-first
returns-then-low-first c = next_wrong c.args.table.now c.args.node _ (range_unlike c.args.table.now c.args.node (omega arith) (omega arith))

pub returns-then-table-next : goal.returns-then-table-next
returns-then-table-next c = next_wrong c.args.table.now c.args.node _ (range_like c.args.table.now c.args.node (omega arith) (omega arith) ∙ lt-leb (low_word c.args.table.now c.args.node + high_word c.args.table.now c.args.node) (node_count c.args.table.now) (omega arith))

pub returns : goal.returns
returns c = next_right c.args.table.now c.args.node _ _ (high_word c.args.table.now c.args.node) (range_like c.args.table.now c.args.node (omega arith) (omega arith) ∙ le-leb (low_word c.args.table.now c.args.node + high_word c.args.table.now c.args.node) (node_count c.args.table.now) (omega arith)) (sym c.requires.node_value) (omega arith)
