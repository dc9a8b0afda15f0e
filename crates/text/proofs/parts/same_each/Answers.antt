-- `text::parts::same_each` meets its contract.
use mathlib.Core.Path.{sym}
use Rattle.text.proofs.Same.{same_on, same_stop, same_last, words_equal, words_unlike}
use native.Mathlib.Omega.{arith}
use Rattle.text.proofs.parts.same_each.Goals as goal

pub returns-then-word32 : goal.returns-then-word32
returns-then-word32 c = sym (same_stop c.args.a.now c.args.b.now 0 4 (words_unlike c.word32.ensures c.word32-2.ensures c.if-word32.true))

pub returns : goal.returns
returns c =
    same_last 4 c.requires (omega arith) (omega arith) (λ k. (c.type_inv.a k).fits) (λ k. (c.type_inv.b k).fits) c.word32-3.ensures c.word32-4.ensures
    (same_on c.args.a.now c.args.b.now 0 4 (words_equal (omega arith) (omega arith) (λ k. (c.type_inv.a k).fits) (λ k. (c.type_inv.b k).fits) c.word32.ensures c.word32-2.ensures c.if-word32.false))
