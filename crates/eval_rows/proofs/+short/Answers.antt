-- The answers of the cycle of calls {short}.
use mathlib.Core.Path.{refl}
use Rattle.regex_rooms.proofs.Laws.{rooms}
use Rattle.eval_rows.proofs.+short.Goals as goal

-- short
pub read_in-requires : goal.read_in-requires
read_in-requires t c = record { ask_pass = c.requires.ask_pass; call_at = c.requires.call_at; size_in_bounds = rooms 128 refl refl c.requires.size_bound }
