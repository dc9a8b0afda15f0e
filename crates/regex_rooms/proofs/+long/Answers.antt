-- The answers of the cycle of calls {long}.
use mathlib.Core.Path.{refl}
use Rattle.regex_rooms.proofs.Laws.{rooms}
use Rattle.regex_rooms.proofs.+long.Goals as goal

-- long
pub asked-requires : goal.asked-requires
asked-requires t c = record { text_value = (c.requires.0, c.requires.1); e_in_bounds = rooms 1024 refl refl c.requires.2 }
