-- `text::parts::same_pairs` meets its contract: the first two bytes and the last two are all of two or three.
use mathlib.Core.Path.{sym}
use Rattle.text.proofs.Same.{same_on, same_stop, same_last, words_equal, words_unlike}
use native.Mathlib.Omega.{arith}
use Rattle.text.proofs.parts.same_pairs.Goals as goal

pub returns-then-word16 : goal.returns-then-word16
returns-then-word16 c = sym (same_stop c.args.a.now c.args.b.now 0 2 (words_unlike c.word16.ensures c.word16-2.ensures c.if-word16.true))

pub returns : goal.returns
returns c =
    same_last 2 c.requires.a_len.0 (omega arith) (omega arith) (λ k. (c.type_inv.a k).fits) (λ k. (c.type_inv.b k).fits) c.word16-3.ensures c.word16-4.ensures
    (same_on c.args.a.now c.args.b.now 0 2 (words_equal (omega arith) (omega arith) (λ k. (c.type_inv.a k).fits) (λ k. (c.type_inv.b k).fits) c.word16.ensures c.word16-2.ensures c.if-word16.false))
