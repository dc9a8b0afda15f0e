-- `regex_states::follow` meets its contract.
use native.Mathlib.Omega.{arith}
use mathlib.Core.Path.{◌≡◌}
use lib.ListN.{length}
use Rattle.regex_states.specs.Texts.{start}
use Rattle.regex_states.proofs.Loops.{follow_more, edge_fits}
use Rattle.regex_states.proofs.follow.Goals as goal

pub loop-i-init : goal.loop-i-init
loop-i-init c = (c.requires.1, start)

pub returns-then-b-ge-ROW : goal.returns-then-b-ge-ROW
returns-then-b-ge-ROW c = record { from = omega arith; to = omega arith; trail = c.loop-i.invariant.1 }

pub overflow_mul-k : goal.overflow_mul-k
overflow_mul-k c = omega (arith, edge_fits c.loop-i.invariant.0 c.if-b-ge-ROW.false)

pub overflow_add-k : goal.overflow_add-k
overflow_add-k c = omega (arith, edge_fits c.loop-i.invariant.0 c.if-b-ge-ROW.false)

pub bounds-edges-k : goal.bounds-edges-k
bounds-edges-k c = edge_fits c.loop-i.invariant.0 c.if-b-ge-ROW.false

pub returns-then-t-eq0 : goal.returns-then-t-eq0
returns-then-t-eq0 c = record { from = omega arith; to = omega arith; trail = c.loop-i.invariant.1 }

pub loop-i-preserved : goal.loop-i-preserved
loop-i-preserved c = let f = follow_more c.loop-i.invariant.0 c.loop-i.invariant.1 (omega arith) c.from-b.ensures c.if-b-ge-ROW.false c.from-t.ensures c.if-t-eq0.false in (f.0, f.1)

pub returns : goal.returns
returns c = let e : length c.args.text.now ≡ c.loop-i.i = omega (arith, c.requires.0) in rw e (record { from = omega arith; to = omega arith; trail = c.loop-i.invariant.1 })
