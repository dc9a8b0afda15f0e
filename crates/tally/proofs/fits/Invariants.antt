-- `tally::fits` meets its contract: no sum below the present place passes the largest count.
use mathlib.Core.Path.{◌≡◌}
use mathlib.Core.Bool.{true}
use Prim.Native.Nat.{◌+◌}
use lib.Dec.{leb}
use lib.ListN.{get_or}
use Rattle.definition.specs.Limits.{max_int}
use Rattle.tally_laws.specs.Tallies.{every_below}
use Rattle.tally.proofs.fits.Given as goal

abbrev pub invariant-loop-i : goal.invariant-loop-i
invariant-loop-i l = every_below l.i (λ k. leb (get_or l.counts k 0 + get_or l.more k 0) max_int) ≡ true
