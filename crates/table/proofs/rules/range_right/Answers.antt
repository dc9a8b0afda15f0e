-- Each return is one case of the range rule.
use native.Mathlib.Omega.{arith}
use mathlib.Core.Path.{sym, ◌∙◌, ap, ap₂}
use Prim.Native.Nat.{ℕ, ◌+◌}
use lib.Dec.{eqb, leb}
use Rattle.definition.specs.Tables.{node_count}
use Rattle.table_laws.specs.Rights.{range_empty, range_unlike, range_like}
use borrow.Author.Rules.{rules}
use Rattle.table.proofs.rules.range_right.Goals as goal

pub returns-then-high-eq0 : goal.returns-then-high-eq0
returns-then-high-eq0 c = ap (λ (x : ℕ). eqb x 0) c.low_word-low.ensures ∙ sym (range_empty c.args.table.now c.args.node (omega arith))

pub returns-then-low-first : goal.returns-then-low-first
returns-then-low-first c = sym (range_unlike c.args.table.now c.args.node (omega arith) (omega arith))

pub returns : goal.returns
returns c =
    ap₂ (λ (x y : ℕ). leb (x + y) (node_count c.args.table.now)) c.low_word-low.ensures c.high_word-high.ensures
    ∙ sym (range_like c.args.table.now c.args.node (omega arith) (omega arith))
