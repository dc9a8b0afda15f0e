-- `last` meets its contract.
use mathlib.Core.Path.{refl}
use Rattle.eval_shortcuts.proofs.several.last.Goals as goal

pub behind-pc-requires : goal.behind-pc-requires
behind-pc-requires c = c.requires

pub picks-requires : goal.picks-requires
picks-requires c = (c.requires.0, c.behind-pc.ensures)

pub returns-then-picks : goal.returns-then-picks
returns-then-picks c e = c.picks.ensures c.if-picks.true

pub returns : goal.returns
returns c e = absurd (e refl)
