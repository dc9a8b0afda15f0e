-- `eval::descents::skip_scalars` meets its contract: past the cap nothing is left, and else what is passed is no list or map.
use Rattle.eval_asks.specs.Steady.{steady_refl}
use Rattle.eval.specs.Calls.{flats_full, flats_scalars}
use Rattle.eval.proofs.descents.skip_scalars.Goals as goal

pub returns-then-cap-at : goal.returns-then-cap-at
returns-then-cap-at c = record { steady = steady_refl _ _; done_flats = flats_full c.requires.asked c.requires.ask_flats c.if-cap-at.true }

pub next_container-requires : goal.next_container-requires
next_container-requires c = record { range = c.requires.ask_flats.range }

pub returns : goal.returns
returns c = record { steady = steady_refl _ _; done_flats = flats_scalars c.requires.asked c.requires.ask_flats c.next_container.ensures }
