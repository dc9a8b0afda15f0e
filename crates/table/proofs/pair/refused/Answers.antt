-- A wrong record decides, and with none the node that is given.
use Rattle.table.proofs.Checks.{refused_text, refused_record}
use borrow.Author.Rules.{rules}
use Rattle.table.proofs.pair.refused.Goals as goal

pub returns-in-Ok : goal.returns-in-Ok
returns-in-Ok c = refused_text _ _ c.over_records.ensures _ c.in-Ok.is

pub returns-in-Err : goal.returns-in-Err
returns-in-Err c = refused_record _ _ c.over_records.ensures _ _ c.in-Err.is
