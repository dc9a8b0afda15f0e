-- `text::encoding::ascii_blocks` meets its contract. The loop's invariant: the bytes that were looked at are ASCII.
use native.Mathlib.Omega.{arith}
use mathlib.Core.Path.{◌≡◌, ap}
use mathlib.Core.Bool.{not}
use Prim.Native.Nat.{◌*◌, ◌+◌, ◌-◌}
use lib.ListN.{length}
use borrow.Author.Tests.{not-false}
use Rattle.text.specs.Chars.{is_ascii}
use Rattle.text.proofs.Ascii.{every_more, every_whole}
use Rattle.text.proofs.encoding.ascii_blocks.Goals as goal

pub loop-k-preserved : goal.loop-k-preserved
loop-k-preserved c =
    let e : 32 * c.loop-k.k + 32 ≡ 32 * (c.loop-k.k + 1) = omega arith in
    rw e at (every_more is_ascii c.args.s.now (32 * c.loop-k.k) 32 c.loop-k.invariant (c.ascii32.ensures (not-false _ (ap not c.if-not-ascii32.false))))

pub returns : goal.returns
returns c = λ z. every_whole is_ascii c.args.s.now (32 * c.loop-k.k) (length c.args.s.now - 32) 32 (omega arith) (omega arith) c.loop-k.invariant (c.ascii32-2.ensures z)
