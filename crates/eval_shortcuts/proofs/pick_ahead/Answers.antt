-- `pick_ahead` meets its contract.
use native.Mathlib.Omega.{arith}
use mathlib.Core.Path.{refl}
use Rattle.eval_asks.specs.Steady.{steady_refl, steady_wrote}
use Rattle.eval_shortcuts.specs.Entries.{rest_here, ahead_none, ahead_asked, ahead_done}
use Rattle.eval_shortcuts.proofs.pick_ahead.Goals as goal

pub last-pc-requires : goal.last-pc-requires
last-pc-requires c = (c.requires.asked.given.few_p, omega (arith, rest_here c.requires.ask_each))

pub returns-then-pc-eq0 : goal.returns-then-pc-eq0
returns-then-pc-eq0 c = record { steady = steady_refl _ _; done_ahead = ahead_none c.requires.asked }

pub push_picked-r-requires : goal.push_picked-r-requires
push_picked-r-requires c = record { ask_along = ahead_asked c.requires.asked c.requires.ask_each; picks = c.last-pc.ensures c.if-pc-eq0.false }

pub returns : goal.returns
returns c = record { steady = steady_wrote _ _ _ _ c.push_picked-r.auto.list refl; done_ahead = ahead_done c.requires.asked c.push_picked-r.ensures }
