-- `tally::sums` meets its contract: the sums stand below the present place.
use native.Mathlib.Omega.{arith}
use mathlib.Core.Path.{sym}
use Prim.Native.Nat.{◌+◌}
use lib.Dec.{leb}
use lib.ListN.{get_or}
use borrow.Author.Tests.{leb-true}
use Rattle.definition.specs.Limits.{max_int}
use Rattle.tally.proofs.Laws.{every_at, adding_start, adding_on, adding_end}
use Rattle.tally.proofs.sums.Goals as goal

pub loop-i-init : goal.loop-i-init
loop-i-init c = (adding_start c.args.more c.args.counts.now)

pub overflow_add-all : goal.overflow_add-all
overflow_add-all c =
    let h = leb-true (get_or c.args.counts.now c.loop-i.i 0 + get_or c.args.more c.loop-i.i 0) max_int (every_at 256 c.loop-i.i (λ k. leb (get_or c.args.counts.now k 0 + get_or c.args.more k 0) max_int) (sym c.requires) c.loop-i-test.true) in
    omega (arith, h)

pub loop-i-preserved : goal.loop-i-preserved
loop-i-preserved c = (adding_on c.args.more c.args.counts.now c.loop-i.all c.loop-i.i c.loop-i.invariant c.loop-i-test.true)

pub returns : goal.returns
returns c = adding_end c.args.more c.args.counts.now c.loop-i.all c.loop-i.i c.loop-i.invariant c.loop-i-test.false
