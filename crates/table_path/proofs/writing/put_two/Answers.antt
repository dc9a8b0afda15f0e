-- One byte, and one before it.
use Rattle.table_path.proofs.Puts.{put_before}
use borrow.Author.Rules.{rules}
use Rattle.table_path.proofs.writing.put_two.Goals as goal

pub returns : goal.returns
returns c = put_before c.put_byte-at.ensures c.put_byte.ensures
