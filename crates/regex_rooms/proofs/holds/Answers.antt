-- `regex_rooms::holds` meets its contract.
use Rattle.regex_rooms.proofs.Laws.{holds_long}
use Rattle.regex_rooms.proofs.holds.Goals as goal

pub returns : goal.returns
returns c = holds_long _ _ _ c.if-n-le-LONG.false
