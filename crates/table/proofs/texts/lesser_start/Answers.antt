-- A node that is no map, a later start, a range that ends before the node, and an earlier start.
use native.Mathlib.Omega.{arith}
use mathlib.Core.Path.{sym, ◌∙◌}
use Rattle.table_laws.specs.Starts.{start_other, start_later, start_past, start_earlier, start_near}
use Rattle.table.proofs.Checks.{start_next}
use borrow.Author.Rules.{rules}
use Rattle.table.proofs.texts.lesser_start.Goals as goal

pub returns-then-kind-ne-KIND_MAP : goal.returns-then-kind-ne-KIND_MAP
returns-then-kind-ne-KIND_MAP c = start_next c.args.table.now c.args.node c.args.map (c.requires.1 ∙ sym (start_other c.args.table.now c.args.node c.args.map (omega arith)))

pub returns-then-least-low : goal.returns-then-least-low
returns-then-least-low c = start_next c.args.table.now c.args.node c.args.map (c.requires.1 ∙ sym (start_later c.args.table.now c.args.node c.args.map (omega (arith, c.requires.1))))

pub returns-then-low-high_word : goal.returns-then-low-high_word
returns-then-low-high_word c = start_next c.args.table.now c.args.node c.args.map (c.requires.1 ∙ sym (start_past c.args.table.now c.args.node c.args.map (omega arith)))

pub returns : goal.returns
returns c =
    let n = start_near c.args.table.now c.args.node c.args.map in
    start_next c.args.table.now c.args.node c.args.map (c.low_word-low.ensures ∙ sym (start_earlier c.args.table.now c.args.node c.args.map (omega arith) (omega (arith, c.requires.1)) (omega arith) (omega (arith, c.requires.1))))
