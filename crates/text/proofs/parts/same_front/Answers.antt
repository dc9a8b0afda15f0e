-- `text::parts::same_front` meets its contract. The loop's invariant: what is left of the two texts stands as the whole texts do.
use native.Mathlib.Omega.{arith}
use mathlib.Core.Path.{◌≡◌, ◌∙◌}
use Prim.Native.Nat.{◌*◌, ◌+◌}
use Rattle.text.proofs.Same.{words_equal}
use Rattle.text.proofs.Orders.{order_past}
use Rattle.text.proofs.parts.same_front.Goals as goal

pub loop-k-preserved : goal.loop-k-preserved
loop-k-preserved c =
    let e : 8 * c.loop-k.k + 8 ≡ 8 * (c.loop-k.k + 1) = omega arith in
    let w = words_equal (omega arith) (omega arith) (λ k. (c.type_inv.a k).fits) (λ k. (c.type_inv.b k).fits) c.word64.ensures c.word64-in-loop-k.ensures c.if-word64.false in
    c.loop-k.invariant ∙ rw e at (order_past c.args.a.now c.args.b.now (8 * c.loop-k.k) 8 w)
