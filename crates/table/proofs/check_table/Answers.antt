-- The sizes first, and then the pass over all rules, behind which a wrong record decides.
use mathlib.Core.Path.{sym, ◌∙◌}
use Rattle.table_laws.specs.Sizes.{right_size}
use Rattle.table.proofs.Checks.{pair_size, pair_right, pair_behind}
use borrow.Author.Rules.{rules}
use Rattle.table.proofs.check_table.Goals as goal

pub returns-then-bad_size : goal.returns-then-bad_size
returns-then-bad_size c = pair_size c.args.table.now c.args.text.now (sym c.bad_size.ensures ∙ c.if-bad_size.true)

pub scan-requires : goal.scan-requires
scan-requires c =
    let z = right_size c.args.table.now c.args.text.now (sym c.bad_size.ensures ∙ c.if-bad_size.false) in
    (z.some_node, z.few)

pub refused-requires : goal.refused-requires
refused-requires c =
    let z = right_size c.args.table.now c.args.text.now (sym c.bad_size.ensures ∙ c.if-bad_size.false) in
    (z.some_node, z.few)

pub returns-in-Ok : goal.returns-in-Ok
returns-in-Ok c = pair_right c.args.table.now c.args.text.now (sym c.bad_size.ensures ∙ c.if-bad_size.false) _ c.scan.ensures c.in-Ok.is

pub returns-in-Err : goal.returns-in-Err
returns-in-Err c = pair_behind c.args.table.now c.args.text.now (sym c.bad_size.ensures ∙ c.if-bad_size.false) _ c.scan.ensures _ c.in-Err.is _ c.refused.ensures
