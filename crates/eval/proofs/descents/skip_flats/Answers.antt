-- `eval::descents::skip_flats` meets its contract: past the cap nothing is left, and else what the shortcut leaves.
use Rattle.eval_asks.specs.Steady.{steady_refl}
use Rattle.eval.specs.Calls.{flats_full, flats_asked, flats_done}
use Rattle.eval.proofs.descents.skip_flats.Goals as goal

pub returns-then-cap-at : goal.returns-then-cap-at
returns-then-cap-at c = record { steady = steady_refl _ _; done_flats = flats_full c.requires.asked c.requires.ask_flats c.if-cap-at.true }

pub next_container-j-requires : goal.next_container-j-requires
next_container-j-requires c = record { range = c.requires.ask_flats.range }

pub pass_flats-requires : goal.pass_flats-requires
pass_flats-requires c = record { asked = c.requires.asked; ask_flats = flats_asked c.requires.asked c.requires.ask_flats c.next_container-j.ensures }

pub returns : goal.returns
returns c = record { steady = c.pass_flats.ensures.steady; done_flats = flats_done c.requires.asked c.requires.ask_flats c.next_container-j.ensures c.pass_flats.ensures.done_flats }
