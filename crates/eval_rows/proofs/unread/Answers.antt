-- `unread` meets its contract.
use mathlib.Core.Path.{refl}
use Rattle.eval_rows.specs.Known.{knows_none, held_none}
use Rattle.eval_rows.specs.declared.turns.Known.TheVariants.{Unread}
use Rattle.eval_rows.proofs.unread.Goals as goal

pub keep-requires : goal.keep-requires
keep-requires c = record { ask_pass = c.requires; knows = (knows_none _ _ _ _ _ c.no_call.ensures, held_none Unread refl) }
