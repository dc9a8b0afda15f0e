-- The answers of the cycle of calls {with_states}.
use mathlib.Core.Path.{refl}
use Rattle.eval_rows.specs.Known.{rooms_enough, knows_states}
use Rattle.eval_rows.proofs.coded.+with_states.Goals as goal

-- with_states
pub prepare-requires : goal.prepare-requires
prepare-requires t c = rooms_enough refl refl

-- with_states
pub keep-requires : goal.keep-requires
keep-requires t c = record { ask_pass = c.requires.ask_pass; knows = (knows_states c.requires.call_at.0 c.requires.ready, λ e. c.prepare.ensures) }
