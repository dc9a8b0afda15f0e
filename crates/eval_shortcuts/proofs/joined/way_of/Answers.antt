-- `joined::way_of` meets its contract.
use native.Mathlib.Omega.{arith}
use Rattle.eval_shortcuts.proofs.joined.way_of.Goals as goal

pub begins_value-requires : goal.begins_value-requires
begins_value-requires c = (c.requires.1 (omega arith), omega arith)
