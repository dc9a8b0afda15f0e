-- `regex_plain::ask` meets its contract.
use Rattle.regex_plain.proofs.Texts.{known_search, known_whole}
use native.Mathlib.Omega.{arith}
use Rattle.regex_plain.proofs.ask.Goals as goal

pub find-requires : goal.find-requires
find-requires c = c.in-Some.ensures.place

pub returns-in-Some : goal.returns-in-Some
returns-in-Some c = known_search _ _ c.in-Some.ensures c.find.ensures

pub whole-requires : goal.whole-requires
whole-requires c = omega (arith, c.in_ok-p.ensures.place)

pub returns : goal.returns
returns c = known_whole _ _ c.in_ok-p.ensures c.whole.ensures
