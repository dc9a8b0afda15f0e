-- The count is that of a list or a map by the kind that was read.
use native.Mathlib.Omega.{arith}
use mathlib.Core.Path.{sym, ◌∙◌}
use Rattle.table_laws.specs.Rights.{count_list, count_map, count_other}
use borrow.Author.Rules.{rules}
use Rattle.table.proofs.records.child_count.Goals as goal

pub returns-then-k-eq-KIND_LIST : goal.returns-then-k-eq-KIND_LIST
returns-then-k-eq-KIND_LIST c = c.high_word.ensures ∙ sym (count_list c.args.table.now c.args.node (omega arith))

pub returns-then-k-eq-KIND_MAP : goal.returns-then-k-eq-KIND_MAP
returns-then-k-eq-KIND_MAP c = c.high_word-then-k-eq-KIND_MAP.ensures ∙ sym (count_map c.args.table.now c.args.node (omega arith))

pub returns : goal.returns
returns c = sym (count_other c.args.table.now c.args.node (omega arith) (omega arith))
