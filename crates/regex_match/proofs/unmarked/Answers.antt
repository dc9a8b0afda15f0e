-- `regex_match::unmarked` meets its contract.
use Rattle.regex_match.proofs.Laws.{by_total, by_places, chars_few, chars_long}
use mathlib.Core.Path.{refl}
use native.Mathlib.Omega.{arith}
use Rattle.regex_match.proofs.unmarked.Goals as goal

pub returns-then-end-ge-PLACES : goal.returns-then-end-ge-PLACES
returns-then-end-ge-PLACES c = by_total _ _ _ c.matches.ensures

pub slice_bounds-run-end : goal.slice_bounds-run-end
slice_bounds-run-end c = chars_long c.scalars-n.ensures c.if-end-ge-PLACES.false refl

pub run-requires : goal.run-requires
run-requires c = chars_few c.scalars-n.ensures c.if-end-ge-PLACES.false refl

pub returns : goal.returns
returns c = by_places _ _ c.scalars-n.ensures (omega (arith, c.if-end-ge-PLACES.false)) c.run.ensures
