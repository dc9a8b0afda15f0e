-- The answers of the cycle of calls {middle}.
use mathlib.Core.Path.{refl}
use Rattle.regex_rooms.proofs.Laws.{rooms}
use Rattle.regex_rooms.proofs.+middle.Goals as goal

-- middle
pub asked-requires : goal.asked-requires
asked-requires t c = record { text_value = (c.requires.0, c.requires.1); e_in_bounds = rooms 128 refl refl c.requires.2 }
