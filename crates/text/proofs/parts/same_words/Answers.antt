-- `text::parts::same_words` meets its contract. The loop's invariant: what is left of the two texts is the same if and only if the whole texts are.
-- The last words decide.
use native.Mathlib.Omega.{arith}
use mathlib.Core.Path.{◌≡◌, sym, ◌∙◌}
use Prim.Native.Nat.{◌*◌, ◌+◌}
use Rattle.text.proofs.Same.{same_on, same_stop, same_last, words_equal, words_unlike}
use Rattle.text.proofs.parts.same_words.Goals as goal

pub returns-then-word64 : goal.returns-then-word64
returns-then-word64 c = sym (c.loop-k.invariant ∙ same_stop c.args.a.now c.args.b.now (8 * c.loop-k.k) 8 (words_unlike c.word64.ensures c.word64-in-loop-k.ensures c.if-word64.true))

pub loop-k-preserved : goal.loop-k-preserved
loop-k-preserved c =
    let e : 8 * c.loop-k.k + 8 ≡ 8 * (c.loop-k.k + 1) = omega arith in
    let w = words_equal (omega arith) (omega arith) (λ k. (c.type_inv.a k).fits) (λ k. (c.type_inv.b k).fits) c.word64.ensures c.word64-in-loop-k.ensures c.if-word64.false in
    c.loop-k.invariant ∙ rw e at (same_on c.args.a.now c.args.b.now (8 * c.loop-k.k) 8 w)

pub returns : goal.returns
returns c = same_last (8 * c.loop-k.k) c.requires.0 (omega arith) (omega arith) (λ k. (c.type_inv.a k).fits) (λ k. (c.type_inv.b k).fits) c.word64-2.ensures c.word64-3.ensures c.loop-k.invariant
