-- The answers of the cycle of calls {with_few}.
use mathlib.Core.Path.{refl}
use Rattle.eval_rows.specs.Known.{held_none, knows_read}
use Rattle.eval_rows.specs.declared.turns.Known.TheVariants.{Read}
use Rattle.eval_rows.proofs.coded.+with_few.Goals as goal

-- with_few
pub keep-requires : goal.keep-requires
keep-requires t c = record { ask_pass = c.requires.ask_pass; knows = (knows_read c.requires.call_at.0 c.requires.ready, held_none Read refl) }
