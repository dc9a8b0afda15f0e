-- The byte stands before the place.
use Rattle.table_path.proofs.Puts.{put_one}
use borrow.Author.Rules.{rules}
use Rattle.table_path.proofs.writing.put_byte.Goals as goal

pub returns : goal.returns
returns c = put_one _ _ _ c.requires
