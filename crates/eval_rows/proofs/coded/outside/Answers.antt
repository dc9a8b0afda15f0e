-- `coded::outside` meets its contract.
use mathlib.Core.Path.{refl}
use Rattle.eval_rows.specs.Known.{knows_outside, held_none}
use Rattle.eval_rows.specs.declared.turns.Known.TheVariants.{Outside}
use Rattle.eval_rows.proofs.coded.outside.Goals as goal

pub keep-requires : goal.keep-requires
keep-requires c = record { ask_pass = c.requires.ask_pass; knows = (knows_outside c.requires.call_at.0 c.requires.outside, held_none Outside refl) }
