-- `text::placed::plain_many` meets its contract. The loop's invariant: while the answer is yes, the bytes that were tested have no bounds of their own.
use native.Mathlib.Omega.{arith}
use mathlib.Core.Path.{◌≡◌}
use Rattle.text.proofs.Along.{plain_all}
use Rattle.text.proofs.placed.plain_many.Goals as goal

pub returns : goal.returns
returns c =
    let e : c.loop-i.i ≡ 64 = omega arith in
    λ z. plain_all c.args.s.now c.args.at 64 (rw e at (c.loop-i.invariant z))
