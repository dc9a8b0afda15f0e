-- With right records the node is the one that is given; with wrong ones all are gone over.
use Rattle.table.proofs.Checks.{found_right, texts_same}
use borrow.Author.Rules.{rules}
use Rattle.table.proofs.pair.refused_text.Goals as goal

pub returns-in-Ok : goal.returns-in-Ok
returns-in-Ok c = texts_same c.args.table.now c.args.text.now c.args.node (found_right _ _ c.over_records.ensures c.in-Ok.is) c.requires.table_value

pub returns-in-Err : goal.returns-in-Err
returns-in-Err c = c.over_texts.ensures
