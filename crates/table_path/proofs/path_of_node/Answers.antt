-- What the check of the table comes to decides.
use Rattle.std.proofs.lemmas.Result.{err_from_is_err_and}
use Rattle.table_laws.specs.Accepted.{accepted_gives}
use Rattle.table_path.proofs.Answers.{says_accepted, told_accepted, told_refused}
use borrow.Author.Rules.{rules}
use Rattle.table_path.proofs.path_of_node.Goals as goal

pub returns-in_err-check_table : goal.returns-in_err-check_table
returns-in_err-check_table c =
    let p = err_from_is_err_and c.from_residual.result c.from_residual.ensures.1 in
    rw (p.1, p.2) (told_refused c.args.table.now c.args.text.now c.args.node c.args.room.now _ c.in_err-check_table.ensures)

pub path_in-requires : goal.path_in-requires
path_in-requires c = accepted_gives c.args.table.now c.args.text.now (says_accepted c.args.table.now c.args.text.now c.in_ok-check_table.ensures)

pub returns : goal.returns
returns c = told_accepted c.args.table.now c.args.text.now c.args.node c.args.room.now _ _ (says_accepted c.args.table.now c.args.text.now c.in_ok-check_table.ensures) c.path_in.ensures
