-- `text::blocks::block_as` meets its contract. The loop's invariant: what the least numbers, the greatest and the answer so far say of the bytes that were
-- tested.
use native.Mathlib.Omega.{arith}
use mathlib.Core.Path.{◌≡◌}
use Rattle.text.proofs.Lengths.{tested_first, tested_more, tested_all}
use Rattle.text.proofs.blocks.block_as.Goals as goal

pub loop-i-init : goal.loop-i-init
loop-i-init c =
    let e = c.min-low.ensures in
    tested_first c.args.kind c.args.s.now c.args.at _ _ _ (omega arith) (omega arith) c.apart_as.ensures c.apart_as-2.ensures _ _ _ c.greater-top.ensures c.under_as.ensures c.under_as-2.ensures

pub loop-i-preserved : goal.loop-i-preserved
loop-i-preserved c =
    let e = c.min-even.ensures in
    let l = c.min-low-in-loop-i.ensures in
    tested_more c.args.kind c.args.s.now c.args.at c.loop-i.i c.loop-i.invariant (omega arith) (omega arith) c.agrees_as.ensures (omega arith) (omega arith) c.apart_as-in-loop-i.ensures c.greater-top-in-loop-i.ensures c.under_as-in-loop-i.ensures c.starts_as-right.ensures

pub returns : goal.returns
returns c =
    let e : c.loop-i.i ≡ c.args.n = omega arith in
    tested_all c.args.kind c.args.s.now c.args.at c.requires.le_kind.0 c.requires.le_kind.1 c.args.n (rw e at c.loop-i.invariant) c.least_of.ensures c.most_of.ensures
