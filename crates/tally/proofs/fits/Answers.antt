-- `tally::fits` meets its contract: no sum below the present place passes the largest count.
use native.Mathlib.Omega.{arith}
use mathlib.Core.Path.{◌≡◌, sym, subst}
use mathlib.Core.Bool.{true}
use Prim.Native.Nat.{ℕ, ◌+◌}
use lib.Dec.{leb}
use lib.ListN.{get_or}
use borrow.Author.Tests.{le-leb, lt-leb}
use Rattle.definition.specs.Limits.{max_int}
use Rattle.tally_laws.specs.Tallies.{every_below}
use Rattle.tally.proofs.Laws.{every_none, every_more, every_not}
use Rattle.tally.proofs.fits.Goals as goal

pub loop-i-init : goal.loop-i-init
loop-i-init c = every_none (λ k. leb (get_or c.args.counts.now k 0 + get_or c.args.more k 0) max_int)

pub returns-then-old-gt-MAX_INT : goal.returns-then-old-gt-MAX_INT
returns-then-old-gt-MAX_INT c = sym (every_not 256 c.loop-i.i (λ k. leb (get_or c.args.counts.now k 0 + get_or c.args.more k 0) max_int) c.loop-i-test.true (lt-leb (get_or c.args.counts.now c.loop-i.i 0 + get_or c.args.more c.loop-i.i 0) max_int (omega arith)))

pub returns-then-old-more : goal.returns-then-old-more
returns-then-old-more c = sym (every_not 256 c.loop-i.i (λ k. leb (get_or c.args.counts.now k 0 + get_or c.args.more k 0) max_int) c.loop-i-test.true (lt-leb (get_or c.args.counts.now c.loop-i.i 0 + get_or c.args.more c.loop-i.i 0) max_int (omega arith)))

pub loop-i-preserved : goal.loop-i-preserved
loop-i-preserved c = (every_more c.loop-i.i (λ k. leb (get_or c.args.counts.now k 0 + get_or c.args.more k 0) max_int) c.loop-i.invariant (le-leb (get_or c.args.counts.now c.loop-i.i 0 + get_or c.args.more c.loop-i.i 0) max_int (omega arith)))

pub returns : goal.returns
returns c =
    let e : c.loop-i.i ≡ 256 = omega (arith, c.loop-i-test.false) in
    sym (subst (λ (n : ℕ). every_below n (λ k. leb (get_or c.args.counts.now k 0 + get_or c.args.more k 0) max_int) ≡ true) e c.loop-i.invariant)
