-- `ahead` meets its contract.
use native.Mathlib.Omega.{arith}
use mathlib.Core.Path.{refl}
use Rattle.eval_asks.specs.Steady.{steady_refl, steady_wrote}
use Rattle.eval_shortcuts.specs.Entries.{rest_here, ahead_none, ahead_asked, ahead_done}
use Rattle.eval_shortcuts.proofs.ahead.Goals as goal

pub leads-requires : goal.leads-requires
leads-requires c = (c.requires.asked.given.few_p, omega (arith, rest_here c.requires.ask_each))

pub bounds-plan-rest : goal.bounds-plan-rest
bounds-plan-rest c = rest_here c.requires.ask_each

pub returns-then-plan-rest-eq-END : goal.returns-then-plan-rest-eq-END
returns-then-plan-rest-eq-END c = record { steady = steady_refl _ _; done_ahead = ahead_none c.requires.asked }

pub pick_ahead-requires : goal.pick_ahead-requires
pick_ahead-requires c = record { asked = c.requires.asked; ask_each = c.requires.ask_each }

pub returns-then-not-leads : goal.returns-then-not-leads
returns-then-not-leads c = record { steady = c.pick_ahead.ensures.steady; done_ahead = c.pick_ahead.ensures.done_ahead }

pub push_along-r-requires : goal.push_along-r-requires
push_along-r-requires c = ahead_asked c.requires.asked c.requires.ask_each

pub returns : goal.returns
returns c = record { steady = steady_wrote _ _ _ _ c.push_along-r.auto.list refl; done_ahead = ahead_done c.requires.asked c.push_along-r.ensures }
