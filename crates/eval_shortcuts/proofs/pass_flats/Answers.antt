-- `eval_shortcuts::pass_flats` meets its contract: what is passed selects what is pushed.
use mathlib.Core.Path.{refl}
use Rattle.eval_asks.specs.Steady.{steady_wrote}
use Rattle.eval_shortcuts.specs.Entries.{flats_asked, flats_done}
use Rattle.eval_shortcuts.proofs.pass_flats.Goals as goal

pub flat_start-f-requires : goal.flat_start-f-requires
flat_start-f-requires c = flats_asked c.requires.asked c.requires.ask_flats

pub returns : goal.returns
returns c = record { steady = steady_wrote _ _ _ _ c.flat_start-f.auto.list refl; done_flats = flats_done c.requires.asked c.requires.ask_flats c.flat_start-f.ensures }
