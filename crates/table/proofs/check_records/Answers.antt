-- The sizes first, and then the pass over the records.
use mathlib.Core.Path.{sym, ◌∙◌}
use Rattle.table_laws.specs.Sizes.{right_size}
use Rattle.table.proofs.Checks.{records_size, records_right, records_wrong}
use borrow.Author.Rules.{rules}
use Rattle.table.proofs.check_records.Goals as goal

pub returns-then-bad_size : goal.returns-then-bad_size
returns-then-bad_size c = records_size c.args.table.now c.args.text.now (sym c.bad_size.ensures ∙ c.if-bad_size.true)

pub over_records-requires : goal.over_records-requires
over_records-requires c =
    let z = right_size c.args.table.now c.args.text.now (sym c.bad_size.ensures ∙ c.if-bad_size.false) in
    (z.some_node, z.few)

pub returns-in-Ok : goal.returns-in-Ok
returns-in-Ok c = records_right c.args.table.now c.args.text.now (sym c.bad_size.ensures ∙ c.if-bad_size.false) _ c.over_records.ensures c.in-Ok.is

pub returns-in-Err : goal.returns-in-Err
returns-in-Err c = records_wrong c.args.table.now c.args.text.now (sym c.bad_size.ensures ∙ c.if-bad_size.false) _ _ c.over_records.ensures c.in-Err.is
