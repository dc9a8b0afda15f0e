-- `regex_match::test` meets its contract.
use native.Mathlib.Omega.{arith}
use Rattle.regex_match.proofs.Laws.{by_plain, by_length, by_marks, taken, grows, fits}
use Rattle.regex_match.proofs.test.Goals as goal

pub returns-in-Some : goal.returns-in-Some
returns-in-Some c = by_plain _ _ c.in-Some.ensures

pub returns-then-missed : goal.returns-then-missed
returns-then-missed c = by_length _ _ (c.missed.ensures c.if-missed.true)

pub slice_bounds-run-end : goal.slice_bounds-run-end
slice_bounds-run-end c = omega (arith, (c.has_room.ensures c.if-has_room.true).1, c.min-room.ensures)

pub run-requires : goal.run-requires
run-requires c = let h = c.has_room.ensures c.if-has_room.true in record { fact_1 = fits _ _ _ _ h.0 h.1 c.min-room.ensures (omega (arith, h.1, c.min-room.ensures)); fact_2 = λ e. grows _ (c.open_ended-o.ensures e) }

pub returns-then-has_room : goal.returns-then-has_room
returns-then-has_room c = let h = c.has_room.ensures c.if-has_room.true in by_marks _ _ _ _ c.weigh-w.ensures h.1 c.run.ensures (taken _ _ (omega (arith, h.1, c.min-room.ensures)))

pub returns : goal.returns
returns c = c.unmarked.ensures
