-- The sizes first, and then the pass over all rules, behind which the texts and keys are known.
use mathlib.Core.Path.{sym, ◌∙◌}
use Rattle.table_laws.specs.Sizes.{right_size}
use Rattle.table.proofs.Checks.{found_wrong, texts_size, texts_right, texts_are}
use borrow.Author.Rules.{rules}
use Rattle.table.proofs.check_texts.Goals as goal

pub returns-then-bad_size : goal.returns-then-bad_size
returns-then-bad_size c = texts_size c.args.table.now c.args.text.now (sym c.bad_size.ensures ∙ c.if-bad_size.true)

pub scan-requires : goal.scan-requires
scan-requires c =
    let z = right_size c.args.table.now c.args.text.now (sym c.bad_size.ensures ∙ c.if-bad_size.false) in
    (z.some_node, z.few)

pub refused_text-requires : goal.refused_text-requires
refused_text-requires c =
    let z = right_size c.args.table.now c.args.text.now (sym c.bad_size.ensures ∙ c.if-bad_size.false) in
    record { table_nonzero = (z.some_node, z.few); table_value = found_wrong _ _ c.scan.ensures _ c.in-Err.is }

pub returns-in-Ok : goal.returns-in-Ok
returns-in-Ok c = texts_right c.args.table.now c.args.text.now (sym c.bad_size.ensures ∙ c.if-bad_size.false) _ c.scan.ensures c.in-Ok.is

pub returns-in-Err : goal.returns-in-Err
returns-in-Err c = texts_are c.args.table.now c.args.text.now (sym c.bad_size.ensures ∙ c.if-bad_size.false) _ c.refused_text.ensures
