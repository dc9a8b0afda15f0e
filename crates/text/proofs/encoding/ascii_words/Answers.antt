-- `text::encoding::ascii_words` meets its contract. The loop's invariant: the bytes that were looked at are ASCII.
use native.Mathlib.Omega.{arith}
use mathlib.Core.Path.{◌≡◌, ap, sym, ◌∙◌}
use mathlib.Core.Bool.{not}
use Prim.Native.Nat.{◌*◌, ◌+◌, ◌-◌}
use lib.ListN.{length}
use borrow.Author.Tests.{not-false}
use Rattle.text.specs.Chars.{is_ascii}
use Rattle.text.proofs.Ascii.{every_more, every_whole}
use Rattle.text.proofs.encoding.ascii_words.Goals as goal

pub loop-k-preserved : goal.loop-k-preserved
loop-k-preserved c =
    let e : 8 * c.loop-k.k + 8 ≡ 8 * (c.loop-k.k + 1) = omega arith in
    rw e at (every_more is_ascii c.args.s.now (8 * c.loop-k.k) 8 c.loop-k.invariant (sym c.ascii8.ensures ∙ not-false _ (ap not c.if-not-ascii8.false)))

pub returns : goal.returns
returns c = λ z. every_whole is_ascii c.args.s.now (8 * c.loop-k.k) (length c.args.s.now - 8) 8 (omega arith) (omega arith) c.loop-k.invariant (sym c.ascii8-2.ensures ∙ z)
