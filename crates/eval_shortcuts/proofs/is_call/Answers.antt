-- `is_call` meets its contract.
use Rattle.eval_rows.specs.Calls.{left_asked}
use Rattle.eval_shortcuts.proofs.is_call.Goals as goal

pub read_call-requires : goal.read_call-requires
read_call-requires c = left_asked c.requires
