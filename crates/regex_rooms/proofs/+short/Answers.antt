-- The answers of the cycle of calls {short}.
use mathlib.Core.Path.{refl}
use Rattle.regex_rooms.proofs.Laws.{rooms}
use Rattle.regex_rooms.proofs.+short.Goals as goal

-- short
pub asked-requires : goal.asked-requires
asked-requires t c = record { text_value = (c.requires.0, c.requires.1); e_in_bounds = rooms 32 refl refl c.requires.2 }
