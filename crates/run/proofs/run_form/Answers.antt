-- `run::run_form` meets its contract, by the answer of the table's check.
use Rattle.std.proofs.lemmas.Result.{err_from_is_err_and}
use borrow.Author.Rules.{rules}
use Rattle.run.specs.Tops.{table_accepted, form_placed, form_refused}
use Rattle.run.proofs.run_form.Goals as goal

pub returns-in_err-check_table : goal.returns-in_err-check_table
returns-in_err-check_table c =
    let p = err_from_is_err_and c.from_residual.result c.from_residual.ensures.1 in
    rw (p.1, p.2) (form_refused _ _ _ _ _ _ _ c.in_err-check_table.ensures)

pub place_nodes-requires : goal.place_nodes-requires
place_nodes-requires c = record { planned = c.requires; table = table_accepted _ _ c.in_ok-check_table.ensures }

pub returns : goal.returns
returns c = form_placed _ _ _ _ _ _ c.in_ok-check_table.ensures _ c.place_nodes.ensures
