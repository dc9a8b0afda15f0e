-- Each return is one way in which a head is wrong, or right.
use native.Mathlib.Omega.{arith}
use mathlib.Core.Path.{sym, ◌∙◌}
use Rattle.table_laws.specs.Rights.{head_kind, head_depth, head_low, head_all}
use borrow.Author.Rules.{rules}
use Rattle.table.proofs.rules.head_right.Goals as goal

pub returns-then-kind-gt-KIND_MAP : goal.returns-then-kind-gt-KIND_MAP
returns-then-kind-gt-KIND_MAP c = sym (head_kind c.args.table.now c.args.node (omega arith))

pub returns-then-depth-gt-MAX_DEPTH : goal.returns-then-depth-gt-MAX_DEPTH
returns-then-depth-gt-MAX_DEPTH c = sym (head_depth c.args.table.now c.args.node (omega arith))

pub returns-then-zeros_2-ne0 : goal.returns-then-zeros_2-ne0
returns-then-zeros_2-ne0 c = sym (head_low c.args.table.now c.args.node (omega arith))

pub returns : goal.returns
returns c = sym (head_all c.args.table.now c.args.node (omega arith) (omega arith) (omega arith))
